-- One transfer beside another over the same hops: the one that leaves as early as it can starts no later, hop by hop.
use Rattle.std.proofs.Common.{◌≡◌, ℕ, zero, suc, ◌-◌, ◌≤◌, max, List, [], ◌∷◌, length, Some, sym, refl, subst, inl, inr, ⊎_elim, arith}
use Rattle.std.proofs.lemmas.Bool.{cases_lt}
use Rattle.std.specs.List.{slice_get}
use Rattle.model.specs.Bookings.{end}
use Rattle.model.specs.Data.{NetData}
use Rattle.model.specs.declared.booking.Booking.{Booking}
use Rattle.model.proofs.Firsts.{some≢none}
use Rattle.routes.specs.Legs.{legs_on}
use Rattle.routes.specs.declared.hop.Hop.{Hop}
use Rattle.planner.proofs.ListTests.{some_same}
use Rattle.certificate.specs.Certificate.{NoneEarlier}
use Rattle.certificate.proofs.Entries.{In, Owner, Entry, Busy}
use Rattle.certificate.proofs.Hops.{leg, Leaves, OnTime}

none_earlier_more : (s z : ℕ) (ss zs : List ℕ) → s ≤ z → NoneEarlier ss zs → NoneEarlier (s ∷ ss) (z ∷ zs)
none_earlier_more s z ss zs l h zero x e = (z, refl, subst (λ y. y ≤ z) (some_same s x e) l)
none_earlier_more s z ss zs l h (suc k) x e = h k x e

none_earlier_nil : (zs : List ℕ) → NoneEarlier [] zs
none_earlier_nil zs k s e = absurd (some≢none (sym e))

pub none_earlier_empty : (ss zs : List ℕ) → ss ≡ [] → NoneEarlier ss zs
none_earlier_empty ss zs e = subst (λ xs. NoneEarlier xs zs) (sym e) (none_earlier_nil zs)

-- the order that rule F gives the later legs
abbrev Follows : ℕ → ℕ → List Booking → Type 0
Follows first before [] = Unit {0}
Follows first before (b ∷ bs) = (max first (before - b.length) ≤ b.start) × Follows first (end b) bs

follows_from : (first : ℕ) (a : Booking) (bs : List Booking) → ((k : ℕ) (b : Booking) → slice_get bs k ≡ Some b → first ≤ b.start) → ((k : ℕ) (x y : Booking) → slice_get (a ∷ bs) k ≡ Some x → slice_get bs k ≡ Some y → end x ≤ end y) → Follows first (end a) bs
follows_from first a [] f g = tt
follows_from first a (b ∷ bs) f g = (
  omega (arith, f 0 b refl, g 0 a b refl refl),
  follows_from first b bs (λ k c e. f (suc k) c e) (λ k x y d e. g (suc k) x y d e),
)

-- rules E and F hold of these legs
pub record InTurn (from : ℕ) (bs : List Booking) : Type 0 where
  pub departs : (b : Booking) → slice_get bs 0 ≡ Some b → from ≤ b.start
  pub after_first : (k : ℕ) (a b : Booking) → slice_get bs 0 ≡ Some a → slice_get bs (suc k) ≡ Some b → a.start ≤ b.start
  pub no_overtaking : (k : ℕ) (a b : Booking) → slice_get bs k ≡ Some a → slice_get bs (suc k) ≡ Some b → end a ≤ end b

module _ (N : NetData) (v : ℕ) (L : List Entry) (o : Owner) where
  -- nothing of another owner is in the way
  abbrev pub Unhindered : List Booking → Type 0
  Unhindered bs = (b : Booking) → In b bs → Busy L o b.resource b.start b.length → ⊥

  compare_on : (hs : List Hop) (ss zs : List ℕ) (first before first' before' : ℕ) → first ≤ first' → before ≤ before' → OnTime L o first before (legs_on N v hs ss) → Follows first' before' (legs_on N v hs zs) → Unhindered (legs_on N v hs zs) → length ss ≡ length hs → length zs ≡ length hs → NoneEarlier ss zs
  compare_on [] [] zs f b f' b' lf lb h g u ls lz = none_earlier_nil zs
  compare_on [] (s ∷ ss) zs f b f' b' lf lb h g u ls lz = absurd (omega (arith, ls))
  compare_on (x ∷ hs) [] zs f b f' b' lf lb h g u ls lz = absurd (omega (arith, ls))
  compare_on (x ∷ hs) (s ∷ ss) [] f b f' b' lf lb h g u ls lz = absurd (omega (arith, lz))
  compare_on (x ∷ hs) (s ∷ ss) (z ∷ zs) f b f' b' lf lb h g u ls lz =
      let here : s ≤ z = ⊎_elim (λ m. absurd (u (leg N v x z) (inl refl) (h.1 z (omega (arith, g.0, lf, lb)) m))) (λ m. m) (cases_lt z s) in
      none_earlier_more s z ss zs here (compare_on hs ss zs f _ f' _ lf (omega (arith, here)) h.2 g.1 (λ c i. u c (inr i)) (omega (arith, ls)) (omega (arith, lz)))

  pub compare : (hs : List Hop) (ss zs : List ℕ) (from : ℕ) → Leaves L o from (legs_on N v hs ss) → InTurn from (legs_on N v hs zs) → Unhindered (legs_on N v hs zs) → length ss ≡ length hs → length zs ≡ length hs → NoneEarlier ss zs
  compare [] [] zs f h t u ls lz = none_earlier_nil zs
  compare [] (s ∷ ss) zs f h t u ls lz = absurd (omega (arith, ls))
  compare (x ∷ hs) [] zs f h t u ls lz = absurd (omega (arith, ls))
  compare (x ∷ hs) (s ∷ ss) [] f h t u ls lz = absurd (omega (arith, lz))
  compare (x ∷ hs) (s ∷ ss) (z ∷ zs) f h t u ls lz =
      let here : s ≤ z = ⊎_elim (λ m. absurd (u (leg N v x z) (inl refl) (h.1 z (t.departs _ refl) m))) (λ m. m) (cases_lt z s) in
      let turn : Follows z (end (leg N v x z)) (legs_on N v hs zs) = follows_from z (leg N v x z) (legs_on N v hs zs) (λ k b e. t.after_first k (leg N v x z) b refl e) t.no_overtaking in
      none_earlier_more s z ss zs here (compare_on hs ss zs s _ z _ here (omega (arith, here)) h.2 turn (λ c i. u c (inr i)) (omega (arith, ls)) (omega (arith, lz)))
