-- Which word begins which line of numbers.
use Rattle.std.specs.Prelude.{ℕ, List, [], ◌∷◌, codes, Option}
use Rattle.script.specs.Words.{named}
use Rattle.script.specs.declared.form.Form.{Form}
use Rattle.script.specs.declared.form.Form.TheVariants.{Task, Edge, Machine, Switch, Link, Route, Bookings, Answer, Row, Starts, Mark, Place, Try, Keep, Strike, Back, Fill, Show}

abbrev pub form_words : List (List ℕ × Form)
form_words =
    (codes "task", Task)
    ∷ (codes "edge", Edge)
    ∷ (codes "machine", Machine)
    ∷ (codes "switch", Switch)
    ∷ (codes "link", Link)
    ∷ (codes "route", Route)
    ∷ (codes "bookings", Bookings)
    ∷ (codes "answer", Answer)
    ∷ (codes "row", Row)
    ∷ (codes "starts", Starts)
    ∷ (codes "mark", Mark)
    ∷ (codes "place", Place)
    ∷ (codes "try", Try)
    ∷ (codes "keep", Keep)
    ∷ (codes "strike", Strike)
    ∷ (codes "back", Back)
    ∷ (codes "fill", Fill)
    ∷ (codes "show", Show)
    ∷ []

abbrev pub form_named : List ℕ → Option Form
form_named w = named form_words w
