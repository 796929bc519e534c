-- The bookings of one transfer: free, apart, in order, and each as early as it can be.
use Rattle.std.proofs.Common.{◌≡◌, ℕ, suc, ◌+◌, ◌-◌, ◌<◌, ◌≤◌, max, ◌≢◌, ◌⊎◌, List, [], ◌∷◌, ◌++◌, length, Some, None, Ok, Err, Option, Result, refl, ap, subst, inl, inr, ⊎_elim, arith}
use Rattle.std.proofs.ByRecursion.{All-weaker}
use Rattle.std.specs.List.{slice_get, AllByRecursion as All}
use Rattle.std.specs.Option.{ok_or}
use Rattle.model.specs.Bookings.{link_resource, end}
use Rattle.model.specs.Data.{NetData, transfer_length}
use Rattle.model.specs.declared.booking.Booking.{Booking}
use Rattle.model.specs.declared.refusal.Refusal.{Refusal}
use Rattle.routes.specs.Laws.{SoundRoute}
use Rattle.routes.specs.Legs.{legs_on}
use Rattle.routes.specs.declared.hop.Hop.{Hop}
use Rattle.timetable.specs.Changes.{with_booking}
use Rattle.timetable.specs.Tables.{Table, span}
use Rattle.planner.specs.Chains.{and_then}
use Rattle.planner.specs.Transfers.{ask, Carried, stay, with_start, carry_on, carry}
use Rattle.certificate.proofs.Entries.{In, Owner, Entry, own, Ledger, Busy, Within, Found, found, busy_grows, ledger_push, blocked, hit_resource, in_push_old, in_push_new, in_push_cases}

-- what a call that is carried out has gone through
pub and_then_ok : {A B : Type 0} (r : Result A Refusal) (f : A → Result B Refusal) (b : B) → and_then r f ≡ Ok b → (a : A) × (r ≡ Ok a) × (f a ≡ Ok b)
and_then_ok (Ok a) f b e = (a, refl, e)
and_then_ok (Err x) f b e = absurd (cc e)

pub ok_or_ok : {A E : Type 0} (o : Option A) (x : E) (a : A) → ok_or o x ≡ Ok a → o ≡ Some a
ok_or_ok None x a e = absurd (cc e)
ok_or_ok (Some b) x a e = cc

pub ask_found : (T : Table) (r f d s : ℕ) → ask T r f d ≡ Ok s → Found T r f d s
ask_found T r f d s e = found T r f d s (ok_or_ok _ _ s e)

-- no link stands twice
abbrev pub LinksApart : List Hop → Type 0
LinksApart [] = Unit {0}
LinksApart (h ∷ hs) = All (λ g. g.link ≢ h.link) hs × LinksApart hs

all_at : {X : Type 0} (P : X → Type 0) (xs : List X) → ((k : ℕ) (x : X) → slice_get xs k ≡ Some x → P x) → All P xs
all_at P [] h = tt
all_at P (x ∷ xs) h = (h 0 x refl, all_at P xs (λ k y e. h (suc k) y e))

links_apart : (hs : List Hop) → ((i j : ℕ) (h g : Hop) → i < j → slice_get hs i ≡ Some h → slice_get hs j ≡ Some g → h.link ≢ g.link) → LinksApart hs
links_apart [] h = tt
links_apart (x ∷ hs) h = (
  all_at (λ g. g.link ≢ x.link) hs (λ k g e n. h 0 (suc k) x g (omega arith) refl e (omega arith)),
  links_apart hs (λ i j a b l d e. h (suc i) (suc j) a b (omega arith) d e),
)

pub route_links_apart : (N : NetData) (s t : ℕ) (hs : List Hop) → SoundRoute N s t hs → LinksApart hs
route_links_apart N s t hs r = links_apart hs r.no_link_twice

-- the booking of a hop from s on
abbrev pub leg : NetData → ℕ → Hop → ℕ → Booking
leg N v h s = span (link_resource h.link) s (transfer_length N v h.link)

-- when a transfer is over: at its last finish, or at its departure if it has no hop
abbrev pub arrival : ℕ → List Booking → ℕ
arrival from [] = from
arrival from (b ∷ bs) = arrival (end b) bs

-- from a tick on, an entry of another owner is in the way until the booking starts
abbrev pub Tight : List Entry → Owner → ℕ → Booking → Type 0
Tight L o from b = (s : ℕ) → from ≤ s → s < b.start → Busy L o b.resource s b.length

-- the later legs, from the first start and the previous finish
abbrev pub OnTime : List Entry → Owner → ℕ → ℕ → List Booking → Type 0
OnTime L o first before [] = Unit {0}
OnTime L o first before (b ∷ bs) = (max first (before - b.length) ≤ b.start) × Tight L o (max first (before - b.length)) b × OnTime L o first (end b) bs

-- all legs, from the departure
abbrev pub Leaves : List Entry → Owner → ℕ → List Booking → Type 0
Leaves L o from [] = Unit {0}
Leaves L o from (b ∷ bs) = (from ≤ b.start) × Tight L o from b × OnTime L o b.start (end b) bs

pub on_time_grows : (L L' : List Entry) (o : Owner) → Within L L' → (first before : ℕ) (bs : List Booking) → OnTime L o first before bs → OnTime L' o first before bs
on_time_grows L L' o w first before [] h = tt
on_time_grows L L' o w first before (b ∷ bs) h = (h.0, (λ s a c. busy_grows w (h.1 s a c)), on_time_grows L L' o w first (end b) bs h.2)

pub leaves_grows : (L L' : List Entry) (o : Owner) → Within L L' → (from : ℕ) (bs : List Booking) → Leaves L o from bs → Leaves L' o from bs
leaves_grows L L' o w from [] h = tt
leaves_grows L L' o w from (b ∷ bs) h = (h.0, (λ s a c. busy_grows w (h.1 s a c)), on_time_grows L L' o w b.start (end b) bs h.2)

-- the ledger has grown by these bookings of the owner
pub record Grown (o : Owner) (bs : List Booking) (L L' : List Entry) : Type 0 where
  pub kept : Within L L'
  pub new : (b : Booking) → In b bs → In (own o b) L'
  pub only : (x : Entry) → In x L' → In x L ⊎ ((b : Booking) × In b bs × (own o b ≡ x))

pub grown_none : (o : Owner) (L : List Entry) → Grown o [] L L
grown_none o L = record { kept = λ x h. h; new = λ b h. absurd h; only = λ x h. inl h }

pub grown_more : (o : Owner) (b : Booking) (bs : List Booking) (L L' : List Entry) → Grown o bs (L ++ own o b ∷ []) L' → Grown o (b ∷ bs) L L'
grown_more o b bs L L' g = record {
  kept = λ x h. g.kept x (in_push_old x (own o b) L h);
  new = λ c h. ⊎_elim (λ e. subst (λ d. In (own o d) L') e (g.kept (own o b) (in_push_new (own o b) L))) (λ i. g.new c i) h;
  only = λ x h. ⊎_elim (λ i. ⊎_elim (λ j. inl j) (λ e. inr (b, inl refl, e)) (in_push_cases x (own o b) L i)) (λ k. inr (k.0, inr k.1, k.2)) (g.only x h);
}

-- the owner has nothing on these links yet
abbrev pub Foreign : Owner → List Hop → List Entry → Type 0
Foreign o hs L = (x : Entry) → In x L → x.owner ≡ o → All (λ h. x.booking.resource ≢ link_resource h.link) hs

module _ (N : NetData) (v : ℕ) (o : Owner) where
  foreign_push : (h : Hop) (hs : List Hop) (L : List Entry) (s : ℕ) → Foreign o (h ∷ hs) L → LinksApart (h ∷ hs) → Foreign o hs (L ++ own o (leg N v h s) ∷ [])
  foreign_push h hs L s f a x i e = ⊎_elim (λ j. (f x j e).1) (λ is. subst (λ y. All (λ g. y.booking.resource ≢ link_resource g.link) hs) is (All-weaker (λ g. g.link ≢ h.link) (λ g. link_resource h.link ≢ link_resource g.link) (λ g n k. n (omega arith)) hs a.0)) (in_push_cases x (own o (leg N v h s)) L i)

  tight_here : (h : Hop) (hs : List Hop) (T : Table) (L : List Entry) (f s : ℕ) → Ledger T L → Foreign o (h ∷ hs) L → Found T (link_resource h.link) f (transfer_length N v h.link) s → Tight L o f (leg N v h s)
  tight_here h hs T L f s l foreign w k a b =
      let x = blocked T L (link_resource h.link) f (transfer_length N v h.link) s l w k a b in
      record { entry = x.0; stands = x.1; other = λ e. (foreign x.0 x.1 e).0 (hit_resource _ _ _ _ x.2); hit = x.2 }

  -- what booking hops leaves
  pub record Came (hs : List Hop) (T : Table) (L : List Entry) (c : Carried) : Type 0 where
    pub ledger : List Entry
    pub held : Ledger c.table ledger
    pub horizon : c.table.horizon ≡ T.horizon
    pub grown : Grown o (legs_on N v hs c.starts) L ledger
    pub count : length c.starts ≡ length hs

  abbrev came_none : (now : ℕ) (T : Table) (L : List Entry) → Ledger T L → Came [] T L (stay now T)
  came_none now T L l = record { ledger = L; held = l; horizon = refl; grown = grown_none o L; count = refl }

  abbrev came_more : (h : Hop) (hs : List Hop) (T : Table) (L : List Entry) (s : ℕ) (c : Carried) → Came hs (with_booking T (leg N v h s)) (L ++ own o (leg N v h s) ∷ []) c → Came (h ∷ hs) T L (with_start s c)
  came_more h hs T L s c r = record {
    ledger = r.ledger;
    held = r.held;
    horizon = r.horizon;
    grown = grown_more o (leg N v h s) (legs_on N v hs c.starts) L r.ledger r.grown;
    count = ap suc r.count;
  }

  -- the later hops, with the tick at which the transfer is over
  abbrev pub CameOn : ℕ → ℕ → List Hop → Table → List Entry → Carried → Type 0
  CameOn first before hs T L c = (k : Came hs T L c) × OnTime k.ledger o first before (legs_on N v hs c.starts) × (c.arrival ≡ arrival before (legs_on N v hs c.starts))

  pub carry_on_came : (first before : ℕ) (hs : List Hop) (T : Table) (L : List Entry) (c : Carried) → Ledger T L → Foreign o hs L → LinksApart hs → carry_on N v first before hs T ≡ Ok c → CameOn first before hs T L c
  unfolding carry_on
  carry_on_came first before [] T L c l f a e =
      let is : stay before T ≡ c = cc e in
      subst (λ x. CameOn first before [] T L x) is (came_none before T L l, tt, refl)
  carry_on_came first before (h ∷ hs) T L c l f a e =
      let d = transfer_length N v h.link in
      let from = max first (before - d) in
      let one = and_then_ok (ask T (link_resource h.link) from d) _ c e in
      let s = one.0 in
      let T1 = with_booking T (leg N v h s) in
      let two = and_then_ok (carry_on N v first (s + d) hs T1) (λ x. Ok (with_start s x)) c one.2 in
      let w = ask_found T (link_resource h.link) from d s one.1 in
      let L1 = L ++ own o (leg N v h s) ∷ [] in
      let rest = carry_on_came first (s + d) hs T1 L1 two.0 (ledger_push T L o (leg N v h s) from l w) (foreign_push h hs L s f a) a.1 two.1 in
      let here = came_more h hs T L s two.0 rest.0 in
      let tight = tight_here h hs T L from s l f w in
      let is : with_start s two.0 ≡ c = cc two.2 in
      subst (λ x. CameOn first before (h ∷ hs) T L x) is (here, (w.late, (λ k x y. busy_grows {L' = here.ledger} here.grown.kept (tight k x y)), rest.1), rest.2)

  -- all hops
  abbrev pub CameAll : ℕ → List Hop → Table → List Entry → Carried → Type 0
  CameAll from hs T L c = (k : Came hs T L c) × Leaves k.ledger o from (legs_on N v hs c.starts) × (c.arrival ≡ arrival from (legs_on N v hs c.starts))

  pub carry_came : (from : ℕ) (hs : List Hop) (T : Table) (L : List Entry) (c : Carried) → Ledger T L → Foreign o hs L → LinksApart hs → carry N v from hs T ≡ Ok c → CameAll from hs T L c
  carry_came from [] T L c l f a e =
      let is : stay from T ≡ c = cc e in
      subst (λ x. CameAll from [] T L x) is (came_none from T L l, tt, refl)
  carry_came from (h ∷ hs) T L c l f a e =
      let d = transfer_length N v h.link in
      let one = and_then_ok (ask T (link_resource h.link) from d) _ c e in
      let s = one.0 in
      let T1 = with_booking T (leg N v h s) in
      let two = and_then_ok (carry_on N v s (s + d) hs T1) (λ x. Ok (with_start s x)) c one.2 in
      let w = ask_found T (link_resource h.link) from d s one.1 in
      let L1 = L ++ own o (leg N v h s) ∷ [] in
      let rest = carry_on_came s (s + d) hs T1 L1 two.0 (ledger_push T L o (leg N v h s) from l w) (foreign_push h hs L s f a) a.1 two.1 in
      let here = came_more h hs T L s two.0 rest.0 in
      let tight = tight_here h hs T L from s l f w in
      let is : with_start s two.0 ≡ c = cc two.2 in
      subst (λ x. CameAll from (h ∷ hs) T L x) is (here, (w.late, (λ k x y. busy_grows {L' = here.ledger} here.grown.kept (tight k x y)), rest.1), rest.2)
