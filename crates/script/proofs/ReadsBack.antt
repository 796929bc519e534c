-- Every line within the limits is read back from its own text.
use Rattle.std.proofs.Common.{◌≡◌, ℕ, ◌^◌, ◌<◌, true, false, List, [], ◌∷◌, map, Some, codes, decimal, refl, ap, arith}
use Rattle.std.specs.List.{AllByRecursion, list_all}
use Rattle.std.specs.Option.{option_map}
use Rattle.std.specs.Str.{all_ascii_digits}
use Rattle.std.proofs.lemmas.Bool.Decides.{nat_tests}
use Rattle.std.proofs.lemmas.Fmt.{digits_decimal, digits_value-decimal, decimal_nonempty}
use Rattle.std.proofs.lemmas.List.Elements.{recursion_from_All}
use Rattle.std.proofs.lemmas.Str.Parse.{IsNumeralModel, numerals_by_fold, tells_all_ascii_digits}
use Rattle.script.specs.Data.{LineData, task, edge, machine, switch, link, routes, route, bookings, answer, row, starts, mark, place, try, keep, strike, back, fill, show, hand_in, timetable}
use Rattle.script.specs.Form.{form_named}
use Rattle.script.specs.Number.{value_after, decimal_value, number_of, numbers_of}
use Rattle.script.specs.Read.{read, says, spaced}
use Rattle.script.specs.Statement.{form_line, hops_of, line_of}
use Rattle.script.specs.Words.{solid, same_word}
use Rattle.script.specs.Written.{Fits32, ReadsBack, hop_numbers}
use Rattle.script.specs.declared.form.Form.{Form}
use Rattle.script.specs.declared.form.Form.TheVariants.{Task, Edge, Machine, Switch, Link, Route, Bookings, Answer, Row, Starts, Mark, Place, Try, Keep, Strike, Back, Fill, Show}
use Rattle.script.specs.declared.line.HopWords.{HopWords}
use Rattle.script.specs.declared.line.RouteKind.TheVariants.{Hops, Slowness, Written}
use Rattle.script.specs.declared.line.TimetableKind.TheVariants.{Roll, Bits}
use Rattle.script.proofs.Spaced.{bare, is_word, line_words_spaced}

abbrev AllFit : List ℕ → Type 0
AllFit ns = AllByRecursion Fits32 ns

own : IsNumeralModel (λ ds. all_ascii_digits ds ≡ true) decimal_value
own = numerals_by_fold (λ ds. all_ascii_digits ds ≡ true) tells_all_ascii_digits value_after (record { empty = λ n. refl; more = λ n c cs h. refl })

-- a number that fits 32 bits is read from its digits
number_decimal : (n : ℕ) → Fits32 n → number_of (decimal n) ≡ Some n
number_decimal n h =
    let small : n < 2 ^ 64 = omega arith in
    grind (arith, nat_tests, digits_value-decimal own n small, digits_decimal own n small, decimal_nonempty n small)

numbers_decimal : (ns : List ℕ) → AllFit ns → numbers_of (map decimal ns) ≡ Some ns
numbers_decimal [] p = refl
numbers_decimal (n ∷ ns) p = rw (number_decimal n p.0, numbers_decimal ns p.1) refl

-- a text of digits can be a word
digits_plain : (w : List ℕ) → all_ascii_digits w ≡ true → (list_all solid w ≡ true) × (bare w ≡ true)
digits_plain [] e = (refl, refl)
digits_plain (b ∷ w) e = (grind (arith, nat_tests, digits_plain w), grind (arith, nat_tests, digits_plain w))

decimal_words : (ns : List ℕ) → AllFit ns → list_all is_word (map decimal ns) ≡ true
decimal_words [] p = refl
decimal_words (n ∷ ns) p =
    let small : n < 2 ^ 64 = omega (arith, p.0) in
    grind (arith, nat_tests, decimal_nonempty n small, digits_plain (decimal n) (digits_decimal own n small), decimal_words ns p.1)

read_back : (w : List ℕ) (ws : List (List ℕ)) (d : LineData) → is_word w ≡ true → list_all is_word ws ≡ true → line_of w ws ≡ Some d → read (spaced (w ∷ ws)) ≡ says d
read_back w ws d plain words said = rw (line_words_spaced (w ∷ ws) (grind (arith, nat_tests)), said) refl

-- a line of numbers
numbered_back : (w : List ℕ) (f : Form) (ns : List ℕ) (d : LineData) → is_word w ≡ true → same_word w (codes "routes") ≡ false → same_word w (codes "hand") ≡ false → same_word w (codes "timetable") ≡ false → form_named w ≡ Some f → AllFit ns → form_line f ns ≡ Some d → read (spaced (w ∷ map decimal ns)) ≡ says d
numbered_back w f ns d plain other more last named fit said =
    read_back w (map decimal ns) d plain (decimal_words ns fit) (rw (other, more, last, named, numbers_decimal ns fit) said)

hops_back : (hs : List HopWords) → hops_of (hop_numbers hs) ≡ Some hs
hops_back [] = refl
hops_back (h ∷ hs) = rw (hops_back hs) refl

pub reads_back : ReadsBack
unfolding same_word
reads_back (task work) p = numbered_back (codes "task") Task (work ∷ []) (task work) refl refl refl refl refl (p, tt) refl
reads_back (edge from to volume) p = numbered_back (codes "edge") Edge (from ∷ to ∷ volume ∷ []) (edge from to volume) refl refl refl refl refl (p.0, (p.1, (p.2, tt))) refl
reads_back (machine speed) p = numbered_back (codes "machine") Machine (speed ∷ []) (machine speed) refl refl refl refl refl (p, tt) refl
reads_back switch p = numbered_back (codes "switch") Switch [] switch refl refl refl refl refl tt refl
reads_back (link speed stations) p =
    numbered_back (codes "link") Link (speed ∷ stations) (link speed stations) refl refl refl refl refl (p.0, recursion_from_All Fits32 stations p.1) refl
reads_back (routes Hops) p = read_back (codes "routes") (codes "hops" ∷ []) (routes Hops) refl refl refl
reads_back (routes Slowness) p = read_back (codes "routes") (codes "slowness" ∷ []) (routes Slowness) refl refl refl
reads_back (routes Written) p = read_back (codes "routes") (codes "written" ∷ []) (routes Written) refl refl refl
reads_back (route from to hops) p =
    numbered_back (codes "route") Route (from ∷ to ∷ hop_numbers hops) (route from to hops) refl refl refl refl refl (p.0, (p.1, recursion_from_All Fits32 (hop_numbers hops) p.2)) (ap (option_map (route from to)) (hops_back hops))
reads_back (bookings most) p =
    numbered_back (codes "bookings") Bookings (most ∷ []) (bookings most) refl refl refl refl refl (omega arith, tt) (grind (arith, nat_tests))
reads_back answer p = numbered_back (codes "answer") Answer [] answer refl refl refl refl refl tt refl
reads_back (row t station start) p =
    numbered_back (codes "row") Row (t ∷ station ∷ start ∷ []) (row t station start) refl refl refl refl refl (omega (arith, p.0), (omega (arith, p.1), (p.2, tt))) (grind (arith, nat_tests))
reads_back (starts e ss) p =
    numbered_back (codes "starts") Starts (e ∷ ss) (starts e ss) refl refl refl refl refl (omega (arith, p.0), recursion_from_All Fits32 ss p.3) (grind (arith, nat_tests))
reads_back mark p = numbered_back (codes "mark") Mark [] mark refl refl refl refl refl tt refl
reads_back (place t m) p = numbered_back (codes "place") Place (t ∷ m ∷ []) (place t m) refl refl refl refl refl (p.0, (p.1, tt)) refl
reads_back (try t m) p = numbered_back (codes "try") Try (t ∷ m ∷ []) (try t m) refl refl refl refl refl (p.0, (p.1, tt)) refl
reads_back keep p = numbered_back (codes "keep") Keep [] keep refl refl refl refl refl tt refl
reads_back strike p = numbered_back (codes "strike") Strike [] strike refl refl refl refl refl tt refl
reads_back back p = numbered_back (codes "back") Back [] back refl refl refl refl refl tt refl
reads_back fill p = numbered_back (codes "fill") Fill [] fill refl refl refl refl refl tt refl
reads_back show p = numbered_back (codes "show") Show [] show refl refl refl refl refl tt refl
reads_back hand_in p = read_back (codes "hand") (codes "in" ∷ []) hand_in refl refl refl
reads_back (timetable Roll) p = read_back (codes "timetable") (codes "roll" ∷ []) (timetable Roll) refl refl refl
reads_back (timetable (Bits words)) p =
    let fits : Fits32 words = omega (arith, p) in
    read_back (codes "timetable") (codes "bits" ∷ map decimal (words ∷ [])) (timetable (Bits words)) refl (decimal_words (words ∷ []) (fits, tt)) (rw (number_decimal words fits) (grind (arith, nat_tests)))
