-- Proofs on the shortest of a list of ways; no definition to read stands here.
-- "Each w of ws" is said by `All` and "o is one of ws" by `Contains`, of the Prelude.
use Rattle.std.specs.Prelude.{◌≡◌, ℕ, ◌<◌, ◌⊎◌, Bool, true, false, List, [], ◌∷◌, ◌++◌, All, Contains, Some, None, Option, refl}
use Rattle.std.specs.List.{slice_get, flat_map}
use Rattle.std.proofs.Common.{zero, suc, sym, ap, ◌∙◌, subst, inl, inr, ⊎_elim, arith}
use Rattle.std.proofs.lemmas.Bool.{cond_both}
use Rattle.std.proofs.lemmas.Option.{none-some, same_Some}
use Rattle.std.proofs.lemmas.List.Elements.{All-nil, All-cons, All-contains, All-contains_itself, All-weaker, Contains-append_left, Contains-append_right}
use Rattle.queue.specs.Orders.{IsStrictTotalOrder}
use Rattle.routes.specs.Offers.{later}
use Rattle.routes.specs.Search.{shorter, shortest}
use Rattle.routes.specs.declared.settled.Settled.{Settled}

module _ {X : Type 0} (before : X → X → Bool) where
  -- w is no better than o, as each of ws is
  abbrev pub NoBetter : Settled X → Settled X → Type 0
  NoBetter o w = before w.distance o.distance ≡ false

  abbrev pub NoneBetter : Settled X → List (Settled X) → Type 0
  NoneBetter o ws = All (NoBetter o) ws

  -- w is worse than o, as each of ws is
  abbrev pub Worse : Settled X → Settled X → Type 0
  Worse o w = before o.distance w.distance ≡ true

  abbrev pub EachWorse : Settled X → List (Settled X) → Type 0
  EachWorse o ws = All (Worse o) ws

  pub shortest_none : (ws : List (Settled X)) → shortest before ws ≡ None → ws ≡ []
  shortest_none [] e = refl
  shortest_none (w ∷ ws) e = cc

  pub shortest_cases : (ws : List (Settled X)) → (ws ≡ []) ⊎ ((o : Settled X) × (shortest before ws ≡ Some o))
  shortest_cases [] = inl refl
  shortest_cases (w ∷ ws) = inr (shorter before w (shortest before ws), refl)

  -- one way more at the end

  snoc_some : IsStrictTotalOrder before → (x y v : Settled X) → shorter before x (Some (later before y (Some v))) ≡ later before y (Some (shorter before x (Some v)))
  snoc_some order x y v = grind (arith, order.asymmetric, order.negatively_transitive)

  shortest_snoc_step : IsStrictTotalOrder before → (x y : Settled X) (o : Option (Settled X)) → shorter before x (Some (later before y o)) ≡ later before y (Some (shorter before x o))
  shortest_snoc_step order x y None = refl
  shortest_snoc_step order x y (Some v) = snoc_some order x y v

  pub shortest_snoc : IsStrictTotalOrder before → (xs : List (Settled X)) (y : Settled X) → shortest before (xs ++ y ∷ []) ≡ Some (later before y (shortest before xs))
  shortest_snoc order [] y = refl
  shortest_snoc order (x ∷ xs) y = ap (λ o. Some (shorter before x o)) (shortest_snoc order xs y) ∙ ap Some (shortest_snoc_step order x y (shortest before xs))

  -- none of ws is better than the shortest

  worse_than_shorter : IsStrictTotalOrder before → (w x y : Settled X) → before y.distance x.distance ≡ false → before y.distance (shorter before w (Some x)).distance ≡ false
  worse_than_shorter order w x y h = grind (arith, order.asymmetric, order.negatively_transitive)

  shorter_itself : IsStrictTotalOrder before → (w : Settled X) (v : Option (Settled X)) → before w.distance (shorter before w v).distance ≡ false
  shorter_itself order w None = grind (arith, order.asymmetric)
  shorter_itself order w (Some v) = grind (arith, order.asymmetric)

  least_step : IsStrictTotalOrder before → (w : Settled X) (ws : List (Settled X)) (v : Option (Settled X)) → shortest before ws ≡ v → ((x : Settled X) → v ≡ Some x → NoneBetter x ws) → NoneBetter (shorter before w v) ws
  least_step order w ws None e least = subst (NoneBetter w) (sym (shortest_none ws e)) (All-nil (NoBetter w))
  least_step order w ws (Some v) e least =
      All-weaker (NoBetter v) (NoBetter (shorter before w (Some v)))
      (λ y h. worse_than_shorter order w v y h) ws (least v refl)

  pub shortest_least : IsStrictTotalOrder before → (ws : List (Settled X)) (o : Settled X) → shortest before ws ≡ Some o → NoneBetter o ws
  shortest_least order [] o e = cc
  shortest_least order (w ∷ ws) o e =
      let same : shorter before w (shortest before ws) ≡ o = cc in
      let first = shorter before w (shortest before ws) in
      subst (λ v. NoneBetter v (w ∷ ws)) same
      (All-cons (NoBetter first) w ws (shorter_itself order w (shortest before ws)) (least_step order w ws (shortest before ws) refl (shortest_least order ws)))

  -- the shortest is one of them

  shortest_held_step : (w : Settled X) (ws : List (Settled X)) (v : Option (Settled X)) → ((x : Settled X) → v ≡ Some x → Contains ws x) → Contains (w ∷ ws) (shorter before w v)
  shortest_held_step w ws None held = (0, omega arith, refl)
  shortest_held_step w ws (Some v) held =
      cond_both (before v.distance w.distance) v w (Contains (w ∷ ws)) (λ _. Contains-append_right (w ∷ []) ws v (held v refl)) (λ _. (0, omega arith, refl))

  pub shortest_held : (ws : List (Settled X)) (o : Settled X) → shortest before ws ≡ Some o → Contains ws o
  shortest_held [] o e = cc
  shortest_held (w ∷ ws) o e =
      let same : shorter before w (shortest before ws) ≡ o = cc in
      subst (Contains (w ∷ ws)) same (shortest_held_step w ws (shortest before ws) (shortest_held ws))

  -- the shortest of both is that of the front, or else that of the back, which is strictly better
  abbrev pub OfOne : List (Settled X) → List (Settled X) → Settled X → Type 0
  OfOne xs ys o = ((shortest before xs ≡ Some o) × NoneBetter o ys) ⊎ ((shortest before ys ≡ Some o) × EachWorse o xs)

  front_nil : (xs ys : List (Settled X)) → xs ++ ys ≡ [] → xs ≡ []
  front_nil [] ys e = refl
  front_nil (x ∷ xs) ys e = cc

  back_nil : (xs ys : List (Settled X)) → xs ++ ys ≡ [] → ys ≡ []
  back_nil [] ys e = e
  back_nil (x ∷ xs) ys e = cc

  worse_than_worse : IsStrictTotalOrder before → (w v x : Settled X) → before v.distance w.distance ≡ false → before v.distance x.distance ≡ true → shorter before w (Some x) ≡ w
  worse_than_worse order w v x a b = grind (arith, order.asymmetric, order.negatively_transitive)

  stays_first : IsStrictTotalOrder before → (w v : Settled X) (ws : List (Settled X)) (u : Option (Settled X)) → before v.distance w.distance ≡ false → EachWorse v ws → shortest before ws ≡ u → shorter before w u ≡ w
  stays_first order w v ws None a worse e = refl
  stays_first order w v ws (Some x) a worse e =
      worse_than_worse order w v x a (All-contains (Worse v) ws x worse (shortest_held ws x e))

  none_better_than : IsStrictTotalOrder before → (w v : Settled X) (ys : List (Settled X)) → before v.distance w.distance ≡ false → NoneBetter v ys → NoneBetter w ys
  none_better_than order w v ys a none =
      All-weaker (NoBetter v) (NoBetter w)
      (λ y h. order.negatively_transitive y.distance v.distance w.distance h a) ys none

  append_step : IsStrictTotalOrder before → (w : Settled X) (ws ys : List (Settled X)) (v : Option (Settled X)) → shortest before (ws ++ ys) ≡ v → ((x : Settled X) → v ≡ Some x → OfOne ws ys x) → OfOne (w ∷ ws) ys (shorter before w v)
  append_step order w ws ys None e split =
      let none = shortest_none (ws ++ ys) e in
      inl (
        ap (λ us. Some (shorter before w (shortest before us))) (front_nil ws ys none),
        subst (NoneBetter w) (sym (back_nil ws ys none)) (All-nil (NoBetter w)),
      )
  append_step order w ws ys (Some v) e split =
      ⊎_elim
      (λ front. inl (
        ap (λ u. Some (shorter before w u)) front.0,
        All-weaker (NoBetter v) (NoBetter (shorter before w (Some v)))
            (λ y h. worse_than_shorter order w v y h) ys front.1,
      ))
      (λ back.
      cond_both (before v.distance w.distance) v w (OfOne (w ∷ ws) ys)
      (λ better. inr (back.0, All-cons (Worse v) w ws better back.1))
      (λ not_better. inl (
        ap Some (stays_first order w v ws (shortest before ws) not_better back.1 refl),
        none_better_than order w v ys not_better (shortest_least order ys v back.0),
      )))
      (split v refl)

  pub shortest_append : IsStrictTotalOrder before → (xs ys : List (Settled X)) (o : Settled X) → shortest before (xs ++ ys) ≡ Some o → OfOne xs ys o
  shortest_append order [] ys o e = inr (e, All-nil (Worse o))
  shortest_append order (w ∷ ws) ys o e =
      let same : shorter before w (shortest before (ws ++ ys)) ≡ o = cc in
      subst (OfOne (w ∷ ws) ys) same (append_step order w ws ys (shortest before (ws ++ ys)) refl (shortest_append order ws ys))

-- of lists in a row

-- the elements of each piece are elements of the whole
pub contains_flat_map : {X Y : Type 0} (f : Y → List X) (ys : List Y) (j : ℕ) (y : Y) (x : X) → slice_get ys j ≡ Some y → Contains (f y) x → Contains (flat_map f ys) x
contains_flat_map f [] j y x at held = absurd (none-some y at)
contains_flat_map f (z ∷ ys) zero y x at held =
    Contains-append_left (f z) (flat_map f ys) x (subst (λ u. Contains (f u) x) (sym (same_Some z y at)) held)
contains_flat_map f (z ∷ ys) (suc j) y x at held = Contains-append_right (f z) (flat_map f ys) x (contains_flat_map f ys j y x at held)

pub all_flat_map : {X Y : Type 0} (P : X → Type 0) (f : Y → List X) (ys : List Y) (j : ℕ) (y : Y) → All P (flat_map f ys) → slice_get ys j ≡ Some y → All P (f y)
all_flat_map P f ys j y all at =
    All-weaker (Contains (f y)) P (λ x held. All-contains P (flat_map f ys) x all (contains_flat_map f ys j y x at held)) (f y) (All-contains_itself (f y))

module _ {X : Type 0} (before : X → X → Bool) {Y : Type 0} (f : Y → List (Settled X)) where
  -- o is the shortest of the piece of one element of ys; the pieces of earlier ones are worse, and none of any is better
  pub record FromPiece (ys : List Y) (o : Settled X) : Type 0 where
    pub place : ℕ
    pub item : Y
    pub there : slice_get ys place ≡ Some item
    pub own : shortest before (f item) ≡ Some o
    pub earlier : (j : ℕ) (y : Y) → j < place → slice_get ys j ≡ Some y → EachWorse before o (f y)
    pub none_better : (j : ℕ) (y : Y) → slice_get ys j ≡ Some y → NoneBetter before o (f y)

  earlier_more : (x : Y) (ys : List Y) (o : Settled X) (place : ℕ) → EachWorse before o (f x) → ((j : ℕ) (y : Y) → j < place → slice_get ys j ≡ Some y → EachWorse before o (f y))
      → (j : ℕ) (y : Y) → j < suc place → slice_get (x ∷ ys) j ≡ Some y → EachWorse before o (f y)
  earlier_more x ys o place first rest zero y less at = subst (λ u. EachWorse before o (f u)) (same_Some x y at) first
  earlier_more x ys o place first rest (suc j) y less at = rest j y (omega arith) at

  pub shortest_flat_map : IsStrictTotalOrder before → (ys : List Y) (o : Settled X) → shortest before (flat_map f ys) ≡ Some o → FromPiece ys o
  shortest_flat_map order [] o e = cc
  shortest_flat_map order (x ∷ ys) o e =
      let least = shortest_least before order (f x ++ flat_map f ys) o e in
      let none_better : (j : ℕ) (y : Y) → slice_get (x ∷ ys) j ≡ Some y → NoneBetter before o (f y) = λ j y at. all_flat_map (NoBetter before o) f (x ∷ ys) j y least at in
      ⊎_elim
      (λ front. record { place = 0; item = x; there = refl; own = front.0; earlier = λ j y less at. absurd (omega arith); none_better = none_better })
      (λ back.
      let r = shortest_flat_map order ys o back.0 in
      record {
        place = suc r.place;
        item = r.item;
        there = r.there;
        own = r.own;
        earlier = earlier_more x ys o r.place back.1 r.earlier;
        none_better = none_better;
      })
      (shortest_append before order (f x) (flat_map f ys) o e)
