-- The ways on from a settled station, over one link each, and the best of them.
use Rattle.std.proofs.Common.{◌≡◌, ℕ, Bool, true, false, List, [], ◌∷◌, ◌++◌, map, Some, None, Option, refl, sym, ap, ◌∙◌, subst, append_assoc}
use Rattle.std.proofs.lemmas.List.{append-nil}
use Rattle.std.specs.Prelude.{if◌then◌else◌}
use denote.Param.Members.{Mut}
use Rattle.std.specs.Fn.{Called}
use Rattle.std.specs.Iterator.{Drains}
use Rattle.std.specs.Option.{MatchOption}
use Rattle.std.specs.List.{FoldsTo, filter, flat_map, fold, reduce, enumerate_from}
use Rattle.std.proofs.lemmas.Iterator.{YieldsList}
use Rattle.std.proofs.lemmas.Iterator.Consumers.{reduce_from_yields_List}
use Rattle.model.specs.Data.{NetData}
use Rattle.model.specs.NetworkLimits.{carries}
use Rattle.model.specs.declared.network.Link.{Link}
use Rattle.queue.specs.Orders.{IsStrictTotalOrder}
use Rattle.routes.specs.Search.{shortest, ways_from, extended}
use Rattle.routes.specs.Offers.{later}
use Rattle.routes.specs.Shown.Shortest.{shortest_snoc}
use Rattle.routes.specs.declared.settled.Settled.{Settled}

module _ {X : Type 0} (before : X → X → Bool) (longer : X → Link → X) (N : NetData) (t i : ℕ) (u : Settled X) where
  -- whether a link leads on from u to t, and the way over it
  abbrev pub leads : ℕ × Link → Bool
  leads p = carries p.1 u.station t

  abbrev pub over : ℕ × Link → Settled X
  over p = extended before longer N i u p.0 p.1 t

  over_if : (b : Bool) (p : ℕ × Link) (ps : List (ℕ × Link)) → map over (if b then p ∷ ps else ps) ≡ (if b then over p ∷ [] else []) ++ map over ps
  over_if true p ps = refl
  over_if false p ps = refl

  over_links : (ps : List (ℕ × Link)) → map over (filter leads ps) ≡ flat_map (λ p. if leads p then over p ∷ [] else []) ps
  over_links [] = refl
  over_links (p ∷ ps) = over_if (leads p) p (filter leads ps) ∙ ap (λ ws. (if leads p then over p ∷ [] else []) ++ ws) (over_links ps)

  -- the better of two ways, one by one, ends with the best
  folded : IsStrictTotalOrder before → (vs : List (Settled X)) (v : Settled X) (ws : List (Settled X)) → shortest before vs ≡ Some v → Some (fold (λ o w. later before w (Some o)) v ws) ≡ shortest before (vs ++ ws)
  folded order vs v [] is = sym is ∙ ap (shortest before) (sym (append-nil vs))
  folded order vs v (w ∷ ws) is =
      folded order (vs ++ w ∷ []) (later before w (Some v)) ws (shortest_snoc before order vs w ∙ ap (λ o. Some (later before w o)) is)
      ∙ ap (shortest before) (append_assoc vs (w ∷ []) ws)

  reduced : IsStrictTotalOrder before → (ws : List (Settled X)) → reduce (λ o w. later before w (Some o)) ws ≡ shortest before ws
  reduced order [] = refl
  reduced order (w ∷ ws) = folded order (w ∷ []) w ws refl

  pub best_over_links : IsStrictTotalOrder before → reduce (λ o w. later before w (Some o)) (map over (filter leads (enumerate_from 0 N.links))) ≡ shortest before (ways_from before longer N t (i, u))
  best_over_links order = reduced order (map over (filter leads (enumerate_from 0 N.links))) ∙ ap (shortest before) (over_links (enumerate_from 0 N.links))

-- `reduce` by a function that h is
module _ {A F : Type 0} {g : Mut F (A × (A × Unit {0})) A} (h : A → A → A) (f : F) (gives : (a x b : A) (q : F) → Called g f (a, (x, tt)) b q → (q ≡ f) × (b ≡ h a x)) where
  turns : (xs : List A) (a y : A) (q l : F) → q ≡ f → FoldsTo {P = F × A} (λ p x n. Called g p.0 (p.1, (x, tt)) n.1 n.0) (q, a) xs (l, y) → FoldsTo (λ p x n. n ≡ h p x) a xs y
  turns [] a y q l is k = ap (λ p. p.1) k
  turns (x ∷ xs) a y q l is k =
      let one = gives a x k.0.1 k.0.0 (subst (λ p. Called g p (a, (x, tt)) k.0.1 k.0.0) is k.1) in
      (k.0.1, one.1, turns xs k.0.1 y k.0.0 l one.0 k.2)

  pub reduce_from_yields_by : {S : Type 0} {steps : S → Option A → S → Type 0} {s : S} {all : List A} (r : Option A)
      → MatchOption r (Drains steps s []) (λ y. (x : A) × (xs : List A) × (l : F) × Drains steps s (x ∷ xs) × FoldsTo {P = F × A} (λ p x n. Called g p.0 (p.1, (x, tt)) n.1 n.0) (f, x) xs (l, y))
      → YieldsList steps (λ x. x) s all → r ≡ reduce h all
  reduce_from_yields_by {s = s} None ran road = reduce_from_yields_List h s None ran road
  reduce_from_yields_by {s = s} (Some y) ran road = reduce_from_yields_List h s (Some y) (ran.0, ran.1, ran.3, turns ran.1 ran.0 y f ran.2 refl ran.4) road
