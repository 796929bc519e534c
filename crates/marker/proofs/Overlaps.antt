-- Where no span overlaps a transfer, none shares a tick with it: each transfer has at most one leg on a link, since no route has a link twice.
use Rattle.std.proofs.Common.{◌≡◌, ℕ, zero, suc, ◌+◌, ◌-◌, ◌<◌, ◌≤◌, Bool, true, false, cond, eqb, ltb, ◌≢◌, List, [], ◌∷◌, length, get_or, drop, Some, None, Option, replicate, sym, refl, ap, ◌∙◌, subst, ⊎_elim, zero-add, arith}
use Rattle.std.proofs.lemmas.Bool.{true≢false, cond-true, cond-false, cases_lt, and_parts, and_from, ltb-true, eqb-true, lt-ltb, eq-eqb}
use Rattle.std.specs.List.{slice_get, find}
use Rattle.model.specs.Bookings.{link_resource, collide}
use Rattle.model.specs.Data.{JobData, NetData, station_count}
use Rattle.model.specs.Plans.{PlanData, task_row, starts}
use Rattle.model.specs.declared.booking.Booking.{Booking}
use Rattle.model.specs.declared.job.Edge.{Edge}
use Rattle.model.specs.declared.plan.Placement.{Placement}
use Rattle.std.proofs.lemmas.List.{get_or-replicate, length-replicate}
use Rattle.std.proofs.lemmas.Option.{slice_get-get_or}
use Rattle.model.proofs.Firsts.{some≢none}
use Rattle.routes.specs.Laws.{RouteLaws}
use Rattle.routes.specs.Legs.{Ways, way_between, way, legs_on, legs_along, legs_at, legs}
use Rattle.routes.specs.declared.hop.Hop.{Hop}
use Rattle.marker.specs.Spans.{span_of, span_in, overlaps, overlapped_in, overlapped, IsBlankColumn, SpansTell}
use Rattle.marker.specs.Table.{RowTells}
use Rattle.marker.specs.Verdicts.{any, links_test}
use Rattle.marker.specs.declared.legs.LegTable.{LegTable}
use Rattle.marker.specs.declared.spans.Span.{Span}
use Rattle.marker.specs.declared.spans.SpanTable.{SpanTable}
use Rattle.marker.proofs.Fits.{leg_of_edge}
use Rattle.marker.proofs.Parts.{any_parts, any_from}
use Rattle.marker.proofs.Rows.{row_is, any_is}

-- no tick
abbrev pub no_span : Span
no_span = record { start = 0; length = 0 }

-- a row of no legs has no span
pub no_span_in : (row : List (Option Booking)) (l : ℕ) → ((k : ℕ) → get_or row k None ≡ None) → span_in row l ≡ no_span
no_span_in row l none = ap (λ bs. span_of (find (λ b. eqb b.resource (link_resource l)) bs)) (row_is row [] none)

blank_column : IsBlankColumn (replicate 224 no_span)
blank_column j below = slice_get-get_or (replicate 224 no_span) j no_span (omega (arith, length-replicate 224 no_span)) ∙ ap Some (get_or-replicate 224 j no_span no_span below)

-- columns of no span are blank
pub blank_columns : (n l : ℕ) (column : List Span) → slice_get (replicate n (replicate 224 no_span)) l ≡ Some column → IsBlankColumn column
blank_columns zero l column e = absurd (some≢none (sym e))
blank_columns (suc n) zero column e = let same : replicate 224 no_span ≡ column = cc e in subst IsBlankColumn same blank_column
blank_columns (suc n) (suc l) column e = blank_columns n l column e

-- an element that alone passes is the one that is found
module _ {A : Type 0} (p : A → Bool) where
  find_by : (b : Bool) (x : A) (o : Option A) (y : A) → b ≡ true → x ≡ y → cond b (Some x) o ≡ Some y
  find_by b x o y t e = cond-true b (Some x) o t ∙ ap Some e

  find_either : (b : Bool) (x : A) (o : Option A) (y : A) → (b ≡ true → x ≡ y) → o ≡ Some y → cond b (Some x) o ≡ Some y
  find_either true x o y e f = ap Some (e refl)
  find_either false x o y e f = f

  find_only : (xs : List A) (k : ℕ) (y : A) → slice_get xs k ≡ Some y → p y ≡ true → ((m : ℕ) (x : A) → slice_get xs m ≡ Some x → p x ≡ true → x ≡ y) → find p xs ≡ Some y
  find_only [] k y e t only = absurd (some≢none (sym e))
  find_only (x ∷ xs) zero y e t only = let same : x ≡ y = cc in find_by (p x) x (find p xs) y (ap p same ∙ t) same
  find_only (x ∷ xs) (suc k) y e t only = find_either (p x) x (find p xs) y (only 0 x refl) (find_only xs k y e t (λ m z f u. only (suc m) z f u))

dropped : {A : Type 0} (n k : ℕ) (xs : List A) → slice_get (drop n xs) k ≡ slice_get xs (n + k)
dropped zero k xs = ap (slice_get xs) (sym (zero-add k))
dropped (suc n) k [] = refl
dropped (suc n) k (x ∷ xs) = let e : suc (n + k) ≡ suc n + k = omega arith in dropped n k xs ∙ ap (slice_get (x ∷ xs)) e

-- no link stands twice in a list of hops
abbrev NoTwice : List Hop → Type 0
NoTwice hops = (i j : ℕ) (h k : Hop) → i < j → slice_get hops i ≡ Some h → slice_get hops j ≡ Some k → h.link ≢ k.link

none_twice : NoTwice []
none_twice i j h k l e f = absurd (some≢none (sym e))

leg_hop : (N : NetData) (v : ℕ) (hs : List Hop) (ss : List ℕ) (k : ℕ) (a : Booking) → slice_get (legs_on N v hs ss) k ≡ Some a → (h : Hop) × (slice_get hs k ≡ Some h) × (a.resource ≡ 16 + h.link)
leg_hop N v [] ss k a e = absurd (some≢none (sym e))
leg_hop N v (h ∷ hs) [] k a e = absurd (some≢none (sym e))
leg_hop N v (h ∷ hs) (s ∷ ss) zero a e = (h, refl, cc)
leg_hop N v (h ∷ hs) (s ∷ ss) (suc k) a e = leg_hop N v hs ss k a e

module _ (N : NetData) (ρ : Ways) (keeps : RouteLaws N ρ) where
  route_no_twice : (s t : ℕ) (hs : List Hop) → ρ s t ≡ Some hs → NoTwice hs
  route_no_twice s t hs e =
      ⊎_elim
      (λ (l : s < station_count N). ⊎_elim
      (λ (m : t < station_count N). ((keeps.each_pair s t l m).each_route hs e).no_link_twice)
      (λ (m : station_count N ≤ t). absurd (some≢none (sym e ∙ keeps.unknown_goal s t m)))
      (cases_lt t (station_count N)))
      (λ (l : station_count N ≤ s). absurd (some≢none (sym e ∙ keeps.unknown_origin s t l)))
      (cases_lt s (station_count N))

  empty_no_twice : (hs : List Hop) → Some [] ≡ Some hs → NoTwice hs
  empty_no_twice hs e = let same : [] ≡ hs = cc in subst NoTwice same none_twice

  way_no_twice : (o u : Option Placement) (hs : List Hop) → way_between ρ o u ≡ Some hs → NoTwice hs
  way_no_twice None u hs e = empty_no_twice hs e
  way_no_twice (Some p) None hs e = empty_no_twice hs e
  way_no_twice (Some p) (Some q) hs e = at (eqb p.station q.station) refl
    where
      at : (b : Bool) → eqb p.station q.station ≡ b → NoTwice hs
      at true h = empty_no_twice hs (sym (cond-true _ (Some []) (ρ p.station q.station) h) ∙ e)
      at false h = route_no_twice p.station q.station hs (sym (cond-false _ (Some []) (ρ p.station q.station) h) ∙ e)

  one_on : (v : ℕ) (w : Option (List Hop)) (ss : List ℕ) → ((hs : List Hop) → w ≡ Some hs → NoTwice hs) → (k m : ℕ) (a b : Booking) → slice_get (legs_along N v w ss) k ≡ Some a → slice_get (legs_along N v w ss) m ≡ Some b → a.resource ≡ b.resource → k < m → ⊥
  one_on v None ss once k m a b e f same l = absurd (some≢none (sym e))
  one_on v (Some hs) ss once k m a b e f same l =
      let h = leg_hop N v hs ss k a e in
      let g = leg_hop N v hs ss m b f in
      once hs refl k m h.0 g.0 l h.1 g.1 (omega (arith, h.2, g.2, same))

  on_link : (v : ℕ) (w : Option (List Hop)) (ss : List ℕ) (k : ℕ) (a : Booking) → slice_get (legs_along N v w ss) k ≡ Some a → link_resource (a.resource - 16) ≡ a.resource
  on_link v None ss k a e = absurd (some≢none (sym e))
  on_link v (Some hs) ss k a e = let h = leg_hop N v hs ss k a e in omega (arith, h.2)

  module _ (P : PlanData) (i : ℕ) where
    leg_on_link : (o : Option Edge) (k : ℕ) (a : Booking) → slice_get (legs_at N ρ P i o) k ≡ Some a → link_resource (a.resource - 16) ≡ a.resource
    leg_on_link None k a e = absurd (some≢none (sym e))
    leg_on_link (Some d) k a e = on_link d.volume (way ρ P d) (starts P i) k a e

    -- two legs of one transfer are not on one link
    apart : (o : Option Edge) (k m : ℕ) (a b : Booking) → slice_get (legs_at N ρ P i o) k ≡ Some a → slice_get (legs_at N ρ P i o) m ≡ Some b → a.resource ≡ b.resource → k < m → ⊥
    apart None k m a b e f same l = absurd (some≢none (sym e))
    apart (Some d) k m a b e f same l = one_on d.volume (way ρ P d) (starts P i) (way_no_twice (task_row P d.from) (task_row P d.to)) k m a b e f same l

    one_leg : (o : Option Edge) (k m : ℕ) (a b : Booking) → slice_get (legs_at N ρ P i o) k ≡ Some a → slice_get (legs_at N ρ P i o) m ≡ Some b → a.resource ≡ b.resource → a ≡ b
    one_leg o k m a b e f same =
        ⊎_elim
        (λ (l : k < m). absurd (apart o k m a b e f same l))
        (λ (l : m ≤ k). ⊎_elim
        (λ (n : m < k). absurd (apart o m k b a f e (sym same) n))
        (λ (n : k ≤ m). let at : k ≡ m = omega arith in let both : slice_get (legs_at N ρ P i o) m ≡ Some a = ap (slice_get (legs_at N ρ P i o)) (sym at) ∙ e in cc (both, f))
        (cases_lt m k))
        (cases_lt k m)

module _ (J : JobData) (N : NetData) (ρ : Ways) (P : PlanData) (keeps : RouteLaws N ρ) (few : length J.edges ≤ 224) (T : LegTable) (told : (i : ℕ) → RowTells (get_or T.rows i []) (legs J N ρ P i)) (S : SpanTable) (spans : SpansTell S T) where
  -- the span of an edge on a link is that of its leg there
  span_is : (j m l : ℕ) (b : Booking) → slice_get (legs J N ρ P j) m ≡ Some b → b.resource ≡ link_resource l → span_in (get_or T.rows j []) l ≡ span_of (Some b)
  span_is j m l b e on =
      let passes = λ (x : Booking). eqb x.resource (link_resource l) in
      ap (λ bs. span_of (find passes bs)) (row_is (get_or T.rows j []) (legs J N ρ P j) (told j))
      ∙ ap span_of (find_only passes (legs J N ρ P j) m b e (eq-eqb _ _ on) (λ k x f t. one_leg N ρ keeps P j (slice_get J.edges j) k m x b f e (eqb-true _ _ t ∙ sym on)))

  overlap : (a b : Booking) (s : Span) → collide a b ≡ true → s ≡ span_of (Some b) → overlaps s (span_of (Some a)) ≡ true
  overlap a b s h e =
      let c = and_parts (eqb a.resource b.resource) _ h in
      let share = ltb-true _ _ c.1 in
      ap (λ z. overlaps z (span_of (Some a))) e ∙ and_from _ _ (lt-ltb b.start (a.start + a.length) (omega (arith, share))) (lt-ltb a.start (b.start + b.length) (omega (arith, share)))

  overlapped_by : (i j m : ℕ) (a b : Booking) → i < j → slice_get (legs J N ρ P j) m ≡ Some b → link_resource (a.resource - 16) ≡ a.resource → collide a b ≡ true → (o : Option (List Span)) → slice_get S.columns (a.resource - 16) ≡ o → overlapped_in o i a ≡ true
  overlapped_by i j m a b l e on h None at = refl
  overlapped_by i j m a b l e on h (Some column) at =
      let c = and_parts (eqb a.resource b.resource) _ h in
      let link = a.resource - 16 in
      let row = get_or T.rows j [] in
      let edge = leg_of_edge J N ρ P j m b e in
      let there = spans link column at j (omega (arith, edge.0, few)) in
      let place : i + (1 + (j - i - 1)) ≡ j = omega arith in
      let later = dropped 1 (j - i - 1) (drop i column) ∙ dropped i (1 + (j - i - 1)) column ∙ ap (slice_get column) place ∙ there in
      let is = span_is j m link b e (sym (eqb-true _ _ c.0) ∙ sym on) in
      any_is (λ s. overlaps s (span_of (Some a))) (drop 1 (drop i column))
      ∙ any_from (drop 1 (drop i column)) (λ s. overlaps s (span_of (Some a))) (j - i - 1) (span_in row link) later (overlap a b (span_in row link) h is)

  none_overlapped_by : (i : ℕ) → any (legs J N ρ P i) (overlapped S i) ≡ false → (j : ℕ) (r : Bool) → links_test J N ρ P i j ≡ r → r ≡ false
  none_overlapped_by i none j false e = refl
  none_overlapped_by i none j true e =
      let both = and_parts (ltb i j) _ e in
      let one = any_parts (legs J N ρ P i) (λ a. any (legs J N ρ P j) (λ b. collide a b)) both.1 in
      let other = any_parts (legs J N ρ P j) (λ b. collide one.1 b) one.3 in
      let on = leg_on_link N ρ keeps P i (slice_get J.edges i) one.0 one.1 one.2 in
      absurd (true≢false (sym (any_from (legs J N ρ P i) (overlapped S i) one.0 one.1 one.2 (overlapped_by i j other.0 one.1 other.1 (ltb-true _ _ both.0) other.2 on other.3 _ refl)) ∙ none))

  -- no later edge shares a tick with edge i, where no span overlaps it
  pub none_overlapped : (i : ℕ) → any (legs J N ρ P i) (overlapped S i) ≡ false → (j : ℕ) → links_test J N ρ P i j ≡ false
  none_overlapped i none j = none_overlapped_by i none j (links_test J N ρ P i j) refl
