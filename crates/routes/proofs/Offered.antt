-- The ways on to one station more.
use Rattle.std.proofs.Common.{◌≡◌, ℕ, zero, suc, ◌+◌, List, [], ◌∷◌, ◌++◌, refl, sym, ap, ◌∙◌, subst, arith, add-one, zero-add, append_assoc}
use Rattle.std.specs.Prelude.{Bool, Result, Ok, Err, OnOk, IsErr}
use Rattle.std.specs.List.{flat_map, range_with_len}
use Rattle.std.specs.List.Sorted.{IsPermutation}
use Rattle.std.proofs.lemmas.Grind.{flat_map-append}
use Rattle.std.proofs.lemmas.List.{append-nil}
use Rattle.std.proofs.lemmas.List.Sorted.{IsPermutation-trans, IsPermutation-append_comm, IsPermutation-append_left, IsPermutation-append_right}
use Rattle.model.specs.Data.{NetData}
use Rattle.model.specs.declared.network.Link.{Link}
use Rattle.routes.specs.Offers.{offer_to, offers_below}
use Rattle.routes.specs.declared.settled.Settled.{Settled}

pub range_more : (a n : ℕ) → range_with_len a (suc n) ≡ range_with_len a n ++ (a + n) ∷ []
range_more a zero = let same : a ≡ a + 0 = omega arith in ap (λ b. b ∷ []) same
range_more a (suc n) =
    let same : a + 1 + n ≡ a + suc n = omega arith in
    ap (λ bs. a ∷ bs) (range_more (a + 1) n ∙ ap (λ b. range_with_len (a + 1) n ++ b ∷ []) same)

-- what is moved to the front
shuffled : {A : Type 0} (xs ys q r s : List A) → IsPermutation (xs ++ q) r → IsPermutation (ys ++ r) s → IsPermutation ((xs ++ ys) ++ q) s
shuffled xs ys q r s first second =
    IsPermutation-trans _ _ _ (IsPermutation-append_left q (xs ++ ys) (ys ++ xs) (IsPermutation-append_comm xs ys))
    (IsPermutation-trans _ _ _ (subst (λ w. IsPermutation w (ys ++ r)) (sym (append_assoc ys xs q)) (IsPermutation-append_right ys (xs ++ q) r first)) second)

-- the pieces of the numbers below n, and of one number more
pub flat_map_range_more : {A : Type 0} (f : ℕ → List A) (n : ℕ) → flat_map f (range_with_len 0 (n + 1)) ≡ flat_map f (range_with_len 0 n) ++ f n
flat_map_range_more f n =
    ap (λ k. flat_map f (range_with_len 0 k)) (add-one n)
    ∙ ap (flat_map f) (range_more 0 n ∙ ap (λ b. range_with_len 0 n ++ b ∷ []) (zero-add n))
    ∙ flat_map-append f (range_with_len 0 n) (n ∷ [])
    ∙ ap (λ xs. flat_map f (range_with_len 0 n) ++ xs) (append-nil (f n))

module _ {X : Type 0} (before : X → X → Bool) (longer : X → Link → X) (N : NetData) (us : List (Settled X)) (u : ℕ × Settled X) where
  pub one_station_more : (t : ℕ) (q r s : List (Settled X)) → IsPermutation (offers_below before longer N us u t ++ q) r → IsPermutation (offer_to before longer N us u t ++ r) s
      → IsPermutation (offers_below before longer N us u (t + 1) ++ q) s
  one_station_more t q r s first second =
      subst (λ ws. IsPermutation (ws ++ q) s) (sym (flat_map_range_more (offer_to before longer N us u) t)) (shuffled (offers_below before longer N us u t) (offer_to before longer N us u t) q r s first second)

-- what a call that did not fail did
pub unless_failed : {A E P : Type 0} (r : Result A E) → OnOk r P → (IsErr r → ⊥) → P
unless_failed (Ok x) p fails = p
unless_failed (Err e) p fails = absurd (fails refl)
