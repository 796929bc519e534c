-- The statements of a line as an earlier landing defined them, and that they are those of today; so for how a text splits,
-- and for which lines can be written. The lines of drawing and of timetables came later: what was understood before says what it said.
use Rattle.std.proofs.Common.{All, ◌≡◌, ◌≢◌, ℕ, suc, ◌%◌, ◌≤◌, cond, ◌&&◌, ◌⊎◌, inl, inr, List, [], ◌∷◌, ◌++◌, length, drop, Some, None, codes, Option, ◌==◌, nat_le, slice_index, refl, ap, sym, subst, ◌∙◌, Bool, true, false, if◌then◌else◌, arith}
use Rattle.std.specs.List.{AllByRecursion}
use Rattle.std.proofs.lemmas.List.Elements.{All-from_recursion, recursion_from_All}
use Rattle.std.specs.Option.{option_map, option_or}
use Rattle.std.proofs.lemmas.Bool.Decides.{nat_tests}
use Rattle.std.proofs.lemmas.Slice.Eq.{bytes_eq-Decides}
use Rattle.script.proofs.Hops.{one_more}
use Rattle.script.specs.Data.{LineData, task, edge, machine, switch, link, routes, route, bookings, answer, row, starts, mark}
use Rattle.script.specs.Form.{form_named}
use Rattle.script.specs.Number.{numbers_of}
use Rattle.script.specs.Statement.{task_of, edge_of, machine_of, alone_of, link_of, hops_of, route_of, bookings_of, row_of, starts_of, form_line, kind_named, routes_of, hand_of, timetable_of, numbered_of, line_of}
use Rattle.script.specs.Words.{named, same_word}
use Rattle.script.specs.Lines.{Splits, unlines}
use Rattle.script.specs.Written.{Fits32, Within, hop_numbers}
use Rattle.script.specs.declared.form.Form.{Form}
use Rattle.script.specs.declared.form.Form.TheVariants.{Task, Edge, Machine, Switch, Link, Route, Bookings, Answer, Row, Starts, Mark, Place, Try, Keep, Strike, Back, Fill, Show}
use Rattle.script.specs.declared.line.HopWords.{HopWords}
use Rattle.script.specs.declared.line.RouteKind.{RouteKind}
use Rattle.script.specs.declared.line.RouteKind.TheVariants.{Hops, Slowness, Written}

abbrev pub earlier_task_of : List ℕ → Option LineData
earlier_task_of ns = cond (length ns == 1) (Some (task (slice_index ns 0))) None

abbrev pub earlier_edge_of : List ℕ → Option LineData
earlier_edge_of ns = cond (length ns == 3) (Some (edge (slice_index ns 0) (slice_index ns 1) (slice_index ns 2))) None

abbrev pub earlier_machine_of : List ℕ → Option LineData
earlier_machine_of ns = cond (length ns == 1) (Some (machine (slice_index ns 0))) None

-- a line of one word
abbrev pub earlier_alone_of : LineData → List ℕ → Option LineData
earlier_alone_of d ns = cond (length ns == 0) (Some d) None

abbrev pub earlier_link_of : List ℕ → Option LineData
earlier_link_of ns = cond (nat_le 1 (length ns)) (Some (link (slice_index ns 0) (drop 1 ns))) None

-- each two numbers are a link and a station
abbrev pub earlier_hops_of : List ℕ → List HopWords
earlier_hops_of [] = []
earlier_hops_of (l ∷ []) = []
earlier_hops_of (l ∷ s ∷ ns) = record { link = l; station = s } ∷ earlier_hops_of ns

-- the numbers after the first two come in pairs
abbrev pub earlier_route_of : List ℕ → Option LineData
earlier_route_of ns =
    cond (nat_le 2 (length ns) && length (drop 2 ns) % 2 == 0) (Some (route (slice_index ns 0) (slice_index ns 1) (earlier_hops_of (drop 2 ns)))) None

abbrev pub earlier_bookings_of : List ℕ → Option LineData
earlier_bookings_of ns = cond (length ns == 1 && nat_le (slice_index ns 0) 4096) (Some (bookings (slice_index ns 0))) None

-- a task up to 127, a station up to 15
abbrev pub earlier_row_of : List ℕ → Option LineData
earlier_row_of ns =
    cond (length ns == 3 && (nat_le (slice_index ns 0) 127 && nat_le (slice_index ns 1) 15)) (Some (row (slice_index ns 0) (slice_index ns 1) (slice_index ns 2))) None

-- an edge up to 223, 1 to 15 starts
abbrev pub earlier_starts_of : List ℕ → Option LineData
earlier_starts_of ns =
    cond (nat_le 2 (length ns) && (nat_le (length ns) 16 && nat_le (slice_index ns 0) 223)) (Some (starts (slice_index ns 0) (drop 1 ns))) None

-- what a line of a form says with these numbers
abbrev pub earlier_form_line : Form → List ℕ → Option LineData
earlier_form_line Task ns = earlier_task_of ns
earlier_form_line Edge ns = earlier_edge_of ns
earlier_form_line Machine ns = earlier_machine_of ns
earlier_form_line Switch ns = earlier_alone_of switch ns
earlier_form_line Link ns = earlier_link_of ns
earlier_form_line Route ns = earlier_route_of ns
earlier_form_line Bookings ns = earlier_bookings_of ns
earlier_form_line Answer ns = earlier_alone_of answer ns
earlier_form_line Row ns = earlier_row_of ns
earlier_form_line Starts ns = earlier_starts_of ns
earlier_form_line Mark ns = earlier_alone_of mark ns
-- the forms of drawing, which no word named then
earlier_form_line f ns = form_line f ns

abbrev pub earlier_form_named : List ℕ → Option Form
earlier_form_named w =
    cond (same_word w (codes "task")) (Some Task)
    (cond (same_word w (codes "edge")) (Some Edge)
    (cond (same_word w (codes "machine")) (Some Machine)
    (cond (same_word w (codes "switch")) (Some Switch)
    (cond (same_word w (codes "link")) (Some Link)
    (cond (same_word w (codes "route")) (Some Route)
    (cond (same_word w (codes "bookings")) (Some Bookings)
    (cond (same_word w (codes "answer")) (Some Answer)
    (cond (same_word w (codes "row")) (Some Row)
    (cond (same_word w (codes "starts")) (Some Starts)
    (cond (same_word w (codes "mark")) (Some Mark) None))))))))))

abbrev pub earlier_kind_named : List ℕ → Option RouteKind
earlier_kind_named w =
    cond (same_word w (codes "hops")) (Some Hops)
    (cond (same_word w (codes "slowness")) (Some Slowness)
    (cond (same_word w (codes "written")) (Some Written) None))

-- one word that names a kind of routes
abbrev pub earlier_routes_of : List (List ℕ) → Option LineData
earlier_routes_of [] = None
earlier_routes_of (w ∷ []) = option_map routes (earlier_kind_named w)
earlier_routes_of (w ∷ v ∷ ws) = None

abbrev pub earlier_numbered_of : Option Form → Option (List ℕ) → Option LineData
earlier_numbered_of None ns = None
earlier_numbered_of (Some f) None = None
earlier_numbered_of (Some f) (Some ns) = earlier_form_line f ns

-- what the word w and the words ws after it say, if anything
abbrev pub earlier_line_of : List ℕ → List (List ℕ) → Option LineData
earlier_line_of w ws = cond (same_word w (codes "routes")) (earlier_routes_of ws) (earlier_numbered_of (earlier_form_named w) (numbers_of ws))

pub same_task : (ns : List ℕ) → task_of ns ≡ earlier_task_of ns
same_task [] = refl
same_task (a ∷ []) = refl
same_task (a ∷ b ∷ ns) = grind (arith, nat_tests)

pub same_edge : (ns : List ℕ) → edge_of ns ≡ earlier_edge_of ns
same_edge [] = refl
same_edge (a ∷ []) = refl
same_edge (a ∷ b ∷ []) = refl
same_edge (a ∷ b ∷ c ∷ []) = refl
same_edge (a ∷ b ∷ c ∷ d ∷ ns) = grind (arith, nat_tests)

pub same_machine : (ns : List ℕ) → machine_of ns ≡ earlier_machine_of ns
same_machine [] = refl
same_machine (a ∷ []) = refl
same_machine (a ∷ b ∷ ns) = grind (arith, nat_tests)

pub same_alone : (d : LineData) (ns : List ℕ) → alone_of d ns ≡ earlier_alone_of d ns
same_alone d [] = refl
same_alone d (a ∷ ns) = grind (arith, nat_tests)

pub same_link : (ns : List ℕ) → link_of ns ≡ earlier_link_of ns
same_link [] = refl
same_link (a ∷ ns) = grind (arith, nat_tests)

-- the numbers are hops if they come in pairs
pub same_hops : (ns : List ℕ) → hops_of ns ≡ cond (length ns % 2 == 0) (Some (earlier_hops_of ns)) None
same_hops [] = refl
same_hops (l ∷ []) = refl
same_hops (l ∷ s ∷ ns) = one_more (record { link = l; station = s }) (hops_of ns) (earlier_hops_of ns) (length ns) (same_hops ns)

mapped_route : (from to : ℕ) (o : Option (List HopWords)) (hs : List HopWords) (n : ℕ) → o ≡ cond (n % 2 == 0) (Some hs) None → option_map (route from to) o ≡ cond (nat_le 2 (suc (suc n)) && n % 2 == 0) (Some (route from to hs)) None
mapped_route from to None hs n is = grind (arith, nat_tests)
mapped_route from to (Some rest) hs n is = grind (arith, nat_tests)

pub same_route : (ns : List ℕ) → route_of ns ≡ earlier_route_of ns
same_route [] = refl
same_route (a ∷ []) = refl
same_route (a ∷ b ∷ ns) = mapped_route a b (hops_of ns) (earlier_hops_of ns) (length ns) (same_hops ns)

pub same_bookings : (ns : List ℕ) → bookings_of ns ≡ earlier_bookings_of ns
same_bookings [] = refl
same_bookings (a ∷ []) = refl
same_bookings (a ∷ b ∷ ns) = grind (arith, nat_tests)

pub same_row : (ns : List ℕ) → row_of ns ≡ earlier_row_of ns
same_row [] = refl
same_row (a ∷ []) = refl
same_row (a ∷ b ∷ []) = refl
same_row (a ∷ b ∷ c ∷ []) = refl
same_row (a ∷ b ∷ c ∷ d ∷ ns) = grind (arith, nat_tests)

pub same_starts : (ns : List ℕ) → starts_of ns ≡ earlier_starts_of ns
same_starts [] = refl
same_starts (e ∷ ss) = grind (arith, nat_tests)

pub same_form_line : (f : Form) (ns : List ℕ) → form_line f ns ≡ earlier_form_line f ns
same_form_line Task ns = same_task ns
same_form_line Edge ns = same_edge ns
same_form_line Machine ns = same_machine ns
same_form_line Switch ns = same_alone switch ns
same_form_line Link ns = same_link ns
same_form_line Route ns = same_route ns
same_form_line Bookings ns = same_bookings ns
same_form_line Answer ns = same_alone answer ns
same_form_line Row ns = same_row ns
same_form_line Starts ns = same_starts ns
same_form_line Mark ns = same_alone mark ns
same_form_line f ns = refl

abbrev pub earlier_words : List (List ℕ × Form)
earlier_words =
    (codes "task", Task)
    ∷ (codes "edge", Edge)
    ∷ (codes "machine", Machine)
    ∷ (codes "switch", Switch)
    ∷ (codes "link", Link)
    ∷ (codes "route", Route)
    ∷ (codes "bookings", Bookings)
    ∷ (codes "answer", Answer)
    ∷ (codes "row", Row)
    ∷ (codes "starts", Starts)
    ∷ (codes "mark", Mark)
    ∷ []

-- the words of drawing
abbrev pub later_words : List (List ℕ × Form)
later_words =
    (codes "place", Place)
    ∷ (codes "try", Try)
    ∷ (codes "keep", Keep)
    ∷ (codes "strike", Strike)
    ∷ (codes "back", Back)
    ∷ (codes "fill", Fill)
    ∷ (codes "show", Show)
    ∷ []

-- a word is looked for in the front of a table first
front_named : (front back : List (List ℕ × Form)) (w : List ℕ) → named (front ++ back) w ≡ option_or (named front w) (named back w)
front_named [] back w = refl
front_named (entry ∷ front) back w =
    elim (same_word w entry.0) as (λ b. (if b then Some entry.1 else named (front ++ back) w) ≡ option_or (if b then Some entry.1 else named front w) (named back w)) [
      | true ↦ refl
      | false ↦ front_named front back w
    ]

-- a word names what it named, or else a form of drawing
pub form_named_as_before : (w : List ℕ) → form_named w ≡ option_or (earlier_form_named w) (named later_words w)
form_named_as_before w = front_named earlier_words later_words w

or_none : {T : Type 0} (o : Option T) → option_or o None ≡ o
or_none None = refl
or_none (Some x) = refl

pub same_form_named : (w : List ℕ) → named later_words w ≡ None → form_named w ≡ earlier_form_named w
same_form_named w none = form_named_as_before w ∙ ap (option_or (earlier_form_named w)) none ∙ or_none (earlier_form_named w)

pub same_kind_named : (w : List ℕ) → kind_named w ≡ earlier_kind_named w
same_kind_named w = refl

pub same_routes : (ws : List (List ℕ)) → routes_of ws ≡ earlier_routes_of ws
same_routes [] = refl
same_routes (w ∷ []) = refl
same_routes (w ∷ v ∷ ws) = refl

pub same_numbered : (f : Option Form) (ns : Option (List ℕ)) → numbered_of f ns ≡ earlier_numbered_of f ns
same_numbered None ns = refl
same_numbered (Some f) None = refl
same_numbered (Some f) (Some ns) = same_form_line f ns

-- what does not begin with a later word says what it said, or is not understood as it was not
pub same_line : (w : List ℕ) (ws : List (List ℕ)) → named later_words w ≡ None → same_word w (codes "hand") ≡ false → same_word w (codes "timetable") ≡ false → line_of w ws ≡ earlier_line_of w ws
same_line w ws none other more = rw (same_routes ws, other, more, same_form_named w none, same_numbered (earlier_form_named w) (numbers_of ws)) refl

-- `hand` and `timetable` named nothing
hand_named_nothing : (w : List ℕ) → same_word w (codes "hand") ≡ true → earlier_form_named w ≡ None
unfolding same_word
hand_named_nothing w is = subst (λ v. earlier_form_named v ≡ None) (sym ((bytes_eq-Decides w (codes "hand")).0 is)) refl

timetable_named_nothing : (w : List ℕ) → same_word w (codes "timetable") ≡ true → earlier_form_named w ≡ None
unfolding same_word
timetable_named_nothing w is = subst (λ v. earlier_form_named v ≡ None) (sym ((bytes_eq-Decides w (codes "timetable")).0 is)) refl

numbered_as_before : (before later : Option Form) (ns : Option (List ℕ)) (d : LineData) → earlier_numbered_of before ns ≡ Some d → numbered_of (option_or before later) ns ≡ Some d
numbered_as_before None later ns d is = cc
numbered_as_before (Some f) later ns d is = same_numbered (Some f) ns ∙ is

-- a word that named nothing may have come since
not_later : (b : Bool) (new old : Option LineData) (f : Option Form) (ns : Option (List ℕ)) (d : LineData) → (b ≡ true → f ≡ None) → earlier_numbered_of f ns ≡ Some d → old ≡ Some d → (if b then new else old) ≡ Some d
not_later true new old None ns d nothing said is = cc said
not_later true new old (Some f) ns d nothing said is = cc (nothing refl)
not_later false new old f ns d nothing said is = is

later_as_before : (w : List ℕ) (ws : List (List ℕ)) (f : Option Form) (ns : Option (List ℕ)) (d : LineData) → (same_word w (codes "hand") ≡ true → f ≡ None) → (same_word w (codes "timetable") ≡ true → f ≡ None) → earlier_numbered_of f ns ≡ Some d
    → (if same_word w (codes "hand") then hand_of ws else if same_word w (codes "timetable") then timetable_of ws else numbered_of (option_or f (named later_words w)) ns) ≡ Some d
later_as_before w ws f ns d hand time said =
    let same = numbered_as_before f (named later_words w) ns d said in
    let numbered = numbered_of (option_or f (named later_words w)) ns in
    let timed = if same_word w (codes "timetable") then timetable_of ws else numbered in
    not_later (same_word w (codes "hand")) (hand_of ws) timed f ns d hand said (not_later (same_word w (codes "timetable")) (timetable_of ws) numbered f ns d time said same)

-- what was understood says what it said
pub line_as_before : (w : List ℕ) (ws : List (List ℕ)) (d : LineData) → earlier_line_of w ws ≡ Some d → line_of w ws ≡ Some d
line_as_before w ws d is =
    rw (form_named_as_before w)
    (elim (same_word w (codes "routes")) as (λ b. cond b (earlier_routes_of ws) (earlier_numbered_of (earlier_form_named w) (numbers_of ws)) ≡ Some d
    → (if b then routes_of ws else if same_word w (codes "hand") then hand_of ws else if same_word w (codes "timetable") then timetable_of ws else numbered_of (option_or (earlier_form_named w) (named later_words w)) (numbers_of ws)) ≡ Some d) [
      | true ↦ λ said. same_routes ws ∙ said
      | false ↦ λ said. later_as_before w ws (earlier_form_named w) (numbers_of ws) d (hand_named_nothing w) (timetable_named_nothing w) said
    ] is)

-- how a text splits, and which lines can be written, with the recursive form of `All`
pub record EarlierSplits (bs : List ℕ) (ls : List (List ℕ)) : Type 0 where
  pub whole : (unlines ls ≡ bs) ⊎ (unlines ls ≡ bs ++ 10 ∷ [])
  pub single : AllByRecursion (AllByRecursion (λ b. b ≢ 10)) ls

abbrev pub EarlierWithin : LineData → Type 0
EarlierWithin (task work) = Fits32 work
EarlierWithin (edge from to volume) = Fits32 from × Fits32 to × Fits32 volume
EarlierWithin (machine speed) = Fits32 speed
EarlierWithin switch = Unit {0}
EarlierWithin (link speed stations) = Fits32 speed × AllByRecursion Fits32 stations
EarlierWithin (routes kind) = Unit {0}
EarlierWithin (route from to hops) = Fits32 from × Fits32 to × AllByRecursion Fits32 (hop_numbers hops)
EarlierWithin (bookings most) = most ≤ 4096
EarlierWithin answer = Unit {0}
EarlierWithin (row t station start) = (t ≤ 127) × (station ≤ 15) × Fits32 start
EarlierWithin (starts e ss) = (e ≤ 223) × (1 ≤ length ss) × (length ss ≤ 15) × AllByRecursion Fits32 ss
EarlierWithin mark = Unit {0}
EarlierWithin d = Within d

each_recursive : {X : Type 0} (P : X → Type 0) (xs : List (List X)) → All (All P) xs → AllByRecursion (AllByRecursion P) xs
each_recursive P [] a = tt
each_recursive P (x ∷ xs) a = (recursion_from_All P x (a 0 x (omega arith)), each_recursive P xs (λ k d h. a (suc k) d (omega arith)))

-- today's split says all that the earlier one said
pub splits_as_before : (bs : List ℕ) (ls : List (List ℕ)) → Splits bs ls → EarlierSplits bs ls
splits_as_before bs ls s = record { whole = elim s.whole [ inl e ↦ inl e | inr p ↦ inr p.0 ]; single = each_recursive (λ b. b ≢ 10) ls s.single }

-- the lines that could be written can be
pub within_as_before : (d : LineData) → EarlierWithin d → Within d
within_as_before (task work) w = w
within_as_before (edge from to volume) w = w
within_as_before (machine speed) w = w
within_as_before switch w = w
within_as_before (link speed stations) w = (w.0, All-from_recursion Fits32 stations w.1)
within_as_before (routes kind) w = w
within_as_before (route from to hops) w = (w.0, w.1, All-from_recursion Fits32 (hop_numbers hops) w.2)
within_as_before (bookings most) w = w
within_as_before answer w = w
within_as_before (row t station start) w = w
within_as_before (starts e ss) w = (w.0, w.1, w.2, All-from_recursion Fits32 ss w.3)
within_as_before mark w = w
within_as_before d w = w
