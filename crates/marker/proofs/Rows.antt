-- What a row of the table of legs tells of a transfer's legs.
use Rattle.std.proofs.Common.{◌≡◌, ℕ, zero, suc, ◌+◌, ◌-◌, ◌<◌, ◌≤◌, Bool, true, false, cond, ◌||◌, ◌⊎◌, List, [], ◌∷◌, length, get_or, Some, None, Option, Bor, Iter, map, replicate, sym, refl, ap, ◌∙◌, subst, ⊎_elim, arith}
use denote.Param.Members.{Mut}
use Rattle.std.specs.Array.{IsFromFnResult, IsFromFnResultFrom}
use Rattle.std.specs.Bool.{MatchBool}
use Rattle.std.specs.Fn.{Called, CalledAt}
use Rattle.std.specs.Iterator.{Drains, YieldsThen}
use Rattle.std.specs.Iterator.Adapters.{option_iter_steps, option_iter_item, option_iter_done, flatten_steps, flatten_source, flatten_front, flatten_back, flatten_done}
use Rattle.std.specs.Slice.Iter.{iter_rest}
use Rattle.std.specs.Option.{MatchOption, option_map, option_to_list}
use Rattle.std.specs.declared.iter.Flatten.{Flatten}
use Rattle.std.specs.declared.option.Iter.{OptionIter}
use Rattle.std.specs.List.{FoldsTo, slice_get, find, list_any, last_or, flat_map}
use Rattle.std.proofs.lemmas.Bool.{cases_lt}
use Rattle.std.proofs.lemmas.Fn.{fronts}
use Rattle.std.proofs.lemmas.Iterator.{YieldsList, YieldsList-from_slice}
use Rattle.std.proofs.lemmas.Iterator.Adapters.{YieldsList-from_flatten}
use Rattle.std.proofs.lemmas.Iterator.Consumers.{YieldsList-end, YieldsList-from_shown}
use Rattle.std.proofs.lemmas.Iterator.Search.{any_from_yields_List, find_from_yields_List}
use Rattle.std.proofs.lemmas.Option.{slice_get_within, get_or_from_slice_get}
use Rattle.model.specs.Data.{NetData, job_of}
use Rattle.model.specs.Plans.{plan_of}
use Rattle.model.specs.declared.job.Job.{Job}
use Rattle.model.specs.declared.plan.Plan.{Plan}
use Rattle.model.proofs.Firsts.{some≢none}
use Rattle.model.proofs.Jobs.{of_job}
use Rattle.model.proofs.Tables.{starts_few}
use Rattle.routes.specs.Legs.{Ways, legs, last}
use Rattle.marker.specs.Verdicts.{any}
use Rattle.marker.proofs.Fits.{leg_of_edge}

-- the bookings of a row are the legs that it tells
pub row_is : {A : Type 0} (row : List (Option A)) (xs : List A) → ((k : ℕ) → get_or row k None ≡ slice_get xs k) → flat_map option_to_list row ≡ xs
row_is [] [] tells = refl
row_is [] (x ∷ xs) tells = absurd (some≢none (sym (tells 0)))
row_is (None ∷ row) [] tells = row_is row [] (λ k. tells (suc k))
row_is (None ∷ row) (x ∷ xs) tells = absurd (some≢none (sym (tells 0)))
row_is (Some y ∷ row) [] tells = absurd (some≢none (tells 0))
row_is (Some y ∷ row) (x ∷ xs) tells =
    let same : y ≡ x = cc (tells 0) in
    ap (λ z. z ∷ flat_map option_to_list row) same ∙ ap (λ zs. x ∷ zs) (row_is row xs (λ k. tells (suc k)))

pub any_is : {A : Type 0} (p : A → Bool) (xs : List A) → list_any p xs ≡ any xs p
unfolding any
any_is p [] = refl
any_is p (x ∷ xs) = ap (λ b. p x || b) (any_is p xs)

last_is : {A B : Type 0} (v : A → B) (o : Option A) (x : A) (xs : List A) → option_map v (last_or o (x ∷ xs)) ≡ last (map v (x ∷ xs))
last_is v o x [] = refl
last_is v o x (y ∷ ys) =
    let n = length (map v ys) in
    let later : suc (suc n) - 1 ≡ suc n = omega arith in
    let here : suc n - 1 ≡ n = omega arith in
    last_is v (Some x) y ys ∙ ap (slice_get (v y ∷ map v ys)) here ∙ sym (ap (slice_get (v x ∷ v y ∷ map v ys)) later)

last_of : {A B : Type 0} (v : A → B) (xs : List A) → option_map v (last_or None xs) ≡ last (map v xs)
last_of v [] = refl
last_of v (x ∷ xs) = last_is v None x xs

-- an iterator over what may be there
module _ {A : Type 0} where
  abbrev option_rest : OptionIter A → List A
  option_rest s = cond (option_iter_done s) [] (option_to_list (option_iter_item s))

  option_ended : (b : Bool) (o : Option A) → MatchBool b (◌≡◌ {A = Option (Bor A)} None None) (None ≡ o) → length (cond b [] (option_to_list o)) ≡ 0
  option_ended true o e = refl
  option_ended false o e = ap (λ z. length (option_to_list z)) (sym e)

  option_went : (b d : Bool) (o u : Option A) (x : Bor A) → d ≡ true → MatchBool b (Some x ≡ None) (Some x.now ≡ o) → cond b [] (option_to_list o) ≡ x.now ∷ cond d [] (option_to_list u)
  option_went true d o u x h e = absurd (some≢none e)
  option_went false d o u x h e = ap option_to_list (sym e) ∙ ap (λ z. x.now ∷ cond z [] (option_to_list u)) (sym h)

  yields_list_from_option : (s : OptionIter A) (o : Option A) → option_iter_item s ≡ o → option_iter_done s ≡ false → YieldsList option_iter_steps (λ y. y.now) s (option_to_list o)
  yields_list_from_option s o at more =
      let road = YieldsList-from_shown option_iter_steps (λ y. y.now) option_rest (λ t u e. option_ended (option_iter_done t) (option_iter_item t) e.1) (λ t x u e. option_went (option_iter_done t) (option_iter_done u) (option_iter_item t) (option_iter_item u) x e.0 e.1) s in
      let rest : option_rest s ≡ option_to_list o = ap (λ b. cond b [] (option_to_list (option_iter_item s))) more ∙ ap option_to_list at in
      subst (YieldsList option_iter_steps (λ y. y.now) s) rest road

-- `becomes` makes an iterator over what may be there
abbrev pub Begins : {A : Type 0} → (Bor (Option A) → OptionIter A → Type 0) → Type 0
Begins {A} becomes = (x : Bor (Option A)) (j : OptionIter A) → becomes x j → (option_iter_item j ≡ x.now) × (option_iter_done j ≡ false)

-- the bookings of a row, one by one
module _ {A : Type 0} {s : Flatten (Iter (Option A)) (OptionIter A)} (becomes : Bor (Option A) → OptionIter A → Type 0) (row : List (Option A)) (over : iter_rest (flatten_source s) ≡ row) (front : flatten_front s ≡ None) (back : flatten_back s ≡ None) (more : flatten_done s ≡ false) where
  yields_list_from_bookings : Begins becomes → YieldsList (flatten_steps fronts becomes option_iter_steps) (λ y. y.now) s (flat_map option_to_list row)
  yields_list_from_bookings begins =
      YieldsList-from_flatten becomes option_iter_steps (λ y. y.now) option_to_list (λ x j b. yields_list_from_option j x.now (begins x j b).0 (begins x j b).1) (YieldsList-from_slice row over) front back more

  -- `find`, by a closure that computes a test
  pub find_booking : {F : Type 0} {g : Mut F (Bor (Bor A) × Unit {0}) Bool} (test : A → Bool) (u : Flatten (Iter (Option A)) (OptionIter A)) (f : F) (r : Option (Bor A))
      → (ys : List (Bor A)) × (j : F) × YieldsThen (flatten_steps fronts becomes option_iter_steps) s ys r u × FoldsTo (λ p x q. CalledAt g p x false q) f ys j × MatchOption r (Unit {0}) (λ x. (h : F) × CalledAt g j x true h)
      → Begins becomes → ((x : Bor A) (b : Bool) (q : F) → CalledAt g f x b q → (q ≡ f) × (b ≡ test x.now)) → option_map (λ y. y.now) r ≡ find test (flat_map option_to_list row)
  find_booking test u f r ran begins computes = find_from_yields_List {v = λ (y : Bor A). y.now} test u f r ran (yields_list_from_bookings begins) computes

-- so also where the row tells these legs
module _ {A : Type 0} {s : Flatten (Iter (Option A)) (OptionIter A)} (becomes : Bor (Option A) → OptionIter A → Type 0) (row : List (Option A)) (xs : List A) (tells : (k : ℕ) → get_or row k None ≡ slice_get xs k) (over : iter_rest (flatten_source s) ≡ row) (front : flatten_front s ≡ None) (back : flatten_back s ≡ None) (more : flatten_done s ≡ false) where
  yields_list_from_row : Begins becomes → YieldsList (flatten_steps fronts becomes option_iter_steps) (λ y. y.now) s xs
  yields_list_from_row begins =
      subst (YieldsList (flatten_steps fronts becomes option_iter_steps) (λ y. y.now) s) (row_is row xs tells)
      (yields_list_from_bookings becomes row over front back more begins)

  -- `any`, by a closure that computes a test
  pub any_told : {F : Type 0} {g : Mut F (Bor A × Unit {0}) Bool} (test : A → Bool) (u : Flatten (Iter (Option A)) (OptionIter A)) (f : F) (r : Bool)
      → (ys : List (Bor A)) × (o : Option (Bor A)) × (j : F) × YieldsThen (flatten_steps fronts becomes option_iter_steps) s ys o u × FoldsTo (λ p x q. Called g p (x, tt) false q) f ys j × MatchOption o (r ≡ false) (λ x. (r ≡ true) × ((h : F) × Called g j (x, tt) true h))
      → Begins becomes → ((x : Bor A) (b : Bool) (q : F) → Called g f (x, tt) b q → (q ≡ f) × (b ≡ test x.now)) → r ≡ any xs test
  any_told test u f r ran begins computes = any_from_yields_List {v = λ (y : Bor A). y.now} test u f r ran (yields_list_from_row begins) computes ∙ any_is test xs

  pub last_told : (r : Option (Bor A)) → (ys : List (Bor A)) × Drains (flatten_steps fronts becomes option_iter_steps) s ys × (r ≡ last_or None ys) → Begins becomes → option_map (λ y. y.now) r ≡ last xs
  last_told r ran begins =
      let end = ran.1.1 in
      ap (option_map (λ y. y.now)) ran.2 ∙ last_of (λ y. y.now) ran.0
      ∙ ap last (YieldsList-end (yields_list_from_row begins) ran.0 end.0 end.1 None ran.1.0 refl end.2).0

-- what `from_fn` made has at each place what its closure gives there
made_from : {F B : Type 0} {g : Mut F (ℕ × Unit {0}) B} (P : ℕ → B → Type 0) (f : F) (ys : List B) (i n : ℕ) → IsFromFnResultFrom g f ys i n → ((x : ℕ) (y : B) (q : F) → Called g f (x, tt) y q → (q ≡ f) × P x y) → (k : ℕ) (d : B) → i ≤ k → k < i + n → P k (get_or ys k d)
made_from P f ys i zero made gives k d above below = absurd (omega arith)
made_from {g = g} P f ys i (suc n) made gives k d above below =
    let one = gives i made.1 made.0 made.3 in
    let rest = subst (λ z. IsFromFnResultFrom g z ys (i + 1) n) one.0 made.4 in
    ⊎_elim
    (λ (here : k < i + 1). let same : i ≡ k = omega arith in subst (λ z. P z (get_or ys z d)) same (subst (P i) (sym (made.2.1 d)) one.1))
    (λ (later : i + 1 ≤ k). made_from P f ys (i + 1) n rest gives k d later (omega arith))
    (cases_lt k (i + 1))

pub made_by_from_fn : {F B : Type 0} {g : Mut F (ℕ × Unit {0}) B} (P : ℕ → B → Type 0) (f : F) (ys : List B) (n : ℕ) → IsFromFnResult g f ys n → ((x : ℕ) (y : B) (q : F) → Called g f (x, tt) y q → (q ≡ f) × P x y) → (k : ℕ) (d : B) → k < n → P k (get_or ys k d)
made_by_from_fn P f ys n made gives k d below = made_from P f ys 0 n made.each gives k d (omega arith) (omega arith)

pub made_at : {F B : Type 0} {g : Mut F (ℕ × Unit {0}) B} (P : ℕ → B → Type 0) (f : F) (ys : List B) (n : ℕ) → IsFromFnResult g f ys n → ((x : ℕ) (y : B) (q : F) → Called g f (x, tt) y q → (q ≡ f) × P x y) → (k : ℕ) (y : B) → slice_get ys k ≡ Some y → P k y
made_at P f ys n made gives k y e = subst (P k) (get_or_from_slice_get ys k y y e) (made_by_from_fn P f ys n made gives k y (omega (arith, slice_get_within ys k y e, made.long)))

none_else : {A : Type 0} (o : Option A) → ((x : A) → o ≡ Some x → ⊥) → o ≡ None
none_else None h = refl
none_else (Some x) h = absurd (h x refl)

-- no edge from 224 on and no hop from 15 on has a leg
pub legs_inside : (j : Job) (N : NetData) (ρ : Ways) (p : Plan) (i k : ℕ) → (224 ≤ i) ⊎ (15 ≤ k) → slice_get (legs (job_of j) N ρ (plan_of p) i) k ≡ None
legs_inside j N ρ p i k far =
    none_else (slice_get (legs (job_of j) N ρ (plan_of p) i) k) (λ b e.
    let l = leg_of_edge (job_of j) N ρ (plan_of p) i k b e in
    ⊎_elim (λ h. omega (arith, l.0, (of_job j).few_edges)) (λ h. omega (arith, l.1, starts_few p.transfers i)) far)

-- nor has one that is past the edges of the job
pub legs_past : (j : Job) (N : NetData) (ρ : Ways) (p : Plan) (i k : ℕ) → length (job_of j).edges ≤ i → slice_get (legs (job_of j) N ρ (plan_of p) i) k ≡ None
legs_past j N ρ p i k far =
    none_else (slice_get (legs (job_of j) N ρ (plan_of p) i) k) (λ b e.
    let l = leg_of_edge (job_of j) N ρ (plan_of p) i k b e in
    omega (arith, l.0, far))

none_at : {A : Type 0} (n k : ℕ) → ◌≡◌ {A = Option A} (get_or (replicate n None) k None) None
none_at zero k = refl
none_at (suc n) zero = refl
none_at (suc n) (suc k) = none_at n k

-- rows of nothing have nothing at any place
pub blank_at : {A : Type 0} (m n i k : ℕ) → ◌≡◌ {A = Option A} (get_or (get_or (replicate m (replicate n None)) i []) k None) None
blank_at zero n i k = refl
blank_at (suc m) n zero k = none_at n k
blank_at (suc m) n (suc i) k = blank_at m n i k
