-- What stands at the row of a station: the search from it.
use Rattle.std.proofs.Common.{◌≡◌, ℕ, ◌<◌, ◌≤◌, Bool, Bor, List, [], length, Some, None, Option, vec_items, Vec, get_or, sym, ap, ◌∙◌, arith}
use Rattle.std.specs.List.{slice_get, range_with_len}
use Rattle.std.proofs.lemmas.Bool.{cond-true, cond-false, lt-ltb, le-ltb}
use Rattle.std.proofs.lemmas.List.{length-map}
use Rattle.std.proofs.lemmas.List.FromFn.{length-range_with_len}
use Rattle.std.proofs.lemmas.Option.{same_Some, slice_get-map, slice_get-get_or}
use Rattle.model.specs.Data.{NetData, station_count}
use Rattle.model.specs.declared.network.Link.{Link}
use Rattle.routes.specs.Origins.{search_known}
use Rattle.routes.specs.Shown.Reading.{slice_get_range}
use Rattle.routes.specs.Search.{search_order}
use Rattle.routes.specs.Searched.{TellsSearch}
use Rattle.routes.specs.declared.settled.Settled.{Settled}
use Rattle.std.specs.Option.{MatchOption, option_map}
use Rattle.std.specs.Slice.{IsItemAt}

module _ {X Y : Type 0} (before : X → X → Bool) (longer : X → Link → X) (start : X) (N : NetData) (rows : List (Vec (Settled X) Y)) (told : TellsSearch before longer start N rows) where
  as_many : length rows ≡ station_count N
  as_many = simp length-map at (ap length told) ∙ length-range_with_len 0 (station_count N)

  pub known_row : (s : ℕ) (v : Vec (Settled X) Y) → s < length rows → v ≡ get_or rows s v → vec_items v ≡ search_known before longer N start s
  known_row s v less is =
      let known : s < station_count N = omega (arith, as_many) in
      let row = slice_get-get_or rows s v less in
      same_Some _ _
      (ap (λ w. Some (vec_items w)) is
      ∙ ap (option_map vec_items) (sym row)
      ∙ sym (slice_get-map vec_items rows s)
      ∙ ap (λ ws. slice_get ws s) told
      ∙ slice_get-map (search_order before longer N start) (range_with_len 0 (station_count N)) s
      ∙ ap (option_map (search_order before longer N start)) (slice_get_range (station_count N) s known))
      ∙ sym (cond-true _ _ _ (lt-ltb s (station_count N) known))

  pub unknown_row : (s : ℕ) → length rows ≤ s → [] ≡ search_known before longer N start s
  unknown_row s past =
      let unknown : station_count N ≤ s = omega (arith, as_many) in
      sym (cond-false _ _ _ (le-ltb s (station_count N) unknown))

  -- what is read there, if there is such a row
  pub row_read : (s : ℕ) (o : Option (Bor (Vec (Settled X) Y))) (r : List (Settled X)) → IsItemAt rows s o → MatchOption o (r ≡ []) (λ v. r ≡ vec_items v.now) → r ≡ search_known before longer N start s
  row_read s None r at is = is ∙ unknown_row s at.3
  row_read s (Some v) r at is = is ∙ known_row s v.now at.3.0 at.1
