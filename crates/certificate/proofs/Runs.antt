-- A list of calls that is carried out as far as place i: what is left gives the whole.
use Rattle.std.proofs.Common.{◌≡◌, ℕ, ◌+◌, ◌-◌, ◌<◌, ◌≤◌, List, [], ◌∷◌, ◌++◌, take, drop, length, get_or, slice_set, Some, sym, ap, ◌∙◌, arith}
use Rattle.std.proofs.lemmas.List.{drop_more, drop_all, take_more_set, drop-set-lt, take_all, length-drop, append-nil, append_assoc}
use Rattle.model.specs.Data.{JobData, NetData}
use Rattle.routes.specs.Legs.{Ways}
use Rattle.planner.specs.Trials.{Sheet}
use Rattle.certificate.specs.Calls.{Reply, carry_out, after, told, calls_of}
use Rattle.certificate.specs.declared.call.Asked.{Asked}

pub record Underway (J : JobData) (N : NetData) (ρ : Ways) (first : Sheet) (asked : List Asked) (i : ℕ) (X : Sheet) (now : List Asked) : Type 0 where
  pub sheet : after J N ρ X (calls_of (drop i asked)) ≡ after J N ρ first (calls_of asked)
  pub answers : take i now ++ told J N ρ X (drop i asked) ≡ told J N ρ first asked
  pub rest : drop i now ≡ drop i asked

tail_is : {A : Type 0} (x y : A) (xs ys : List A) → x ∷ xs ≡ y ∷ ys → xs ≡ ys
tail_is x y xs ys e = ap (drop 1) e

module _ (J : JobData) (N : NetData) (ρ : Ways) (first : Sheet) (asked : List Asked) where
  still : (i : ℕ) (X : Sheet) (now : List Asked) → Underway J N ρ first asked i X now → length now - i ≡ length asked - i
  still i X now u = sym (length-drop i now) ∙ ap length u.rest ∙ length-drop i asked

  -- the call at place i is carried out, and its answer written down
  pub one_more : (i : ℕ) (X : Sheet) (now : List Asked) (d : Asked) (r : Reply) → i < length asked → r ≡ carry_out J N ρ X (get_or now i d).call → Underway J N ρ first asked i X now → Underway J N ρ first asked (i + 1) r.sheet (slice_set now i (record { call = (get_or now i d).call; answer = Some r.answer }))
  unfolding after told
  one_more i X now d r less e u =
      let l : i < length now = omega (arith, still i X now u, less) in
      let a = get_or now i d in
      let x : Asked = record { call = a.call; answer = Some r.answer } in
      let here : drop i asked ≡ a ∷ drop (i + 1) now = sym u.rest ∙ drop_more now i d l in
      let left : drop (i + 1) asked ≡ drop (i + 1) now = tail_is _ _ _ _ (sym (drop_more asked i d less) ∙ here) in
      let is : drop i asked ≡ a ∷ drop (i + 1) asked = here ∙ ap (λ xs. a ∷ xs) (sym left) in
      record {
        sheet = ap (λ q. after J N ρ q.sheet (calls_of (drop (i + 1) asked))) e ∙ ap (λ xs. after J N ρ X (calls_of xs)) (sym is) ∙ u.sheet;
        answers =
            ap (λ xs. xs ++ told J N ρ r.sheet (drop (i + 1) asked)) (take_more_set now i x l)
            ∙ append_assoc (take i now) (x ∷ []) (told J N ρ r.sheet (drop (i + 1) asked))
            ∙ ap (λ q. take i now ++ (record { call = a.call; answer = Some q.answer } ∷ told J N ρ q.sheet (drop (i + 1) asked))) e
            ∙ ap (λ xs. take i now ++ told J N ρ X xs) (sym is)
            ∙ u.answers;
        rest = drop-set-lt (i + 1) now i x (omega arith) ∙ sym left;
      }

  pub all_sheet : (i : ℕ) (X : Sheet) (now : List Asked) → length asked ≤ i → Underway J N ρ first asked i X now → X ≡ after J N ρ first (calls_of asked)
  unfolding after
  all_sheet i X now less u =
      let l : length now ≤ i = omega (arith, still i X now u, less) in
      ap (λ xs. after J N ρ X (calls_of xs)) (sym (sym u.rest ∙ drop_all i now l)) ∙ u.sheet

  pub all_answers : (i : ℕ) (X : Sheet) (now : List Asked) → length asked ≤ i → Underway J N ρ first asked i X now → now ≡ told J N ρ first asked
  unfolding told
  all_answers i X now less u =
      let l : length now ≤ i = omega (arith, still i X now u, less) in
      sym (take_all i now l) ∙ sym (append-nil (take i now)) ∙ ap (λ xs. take i now ++ told J N ρ X xs) (sym (sym u.rest ∙ drop_all i now l)) ∙ u.answers
