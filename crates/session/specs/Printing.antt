-- The lines that the program prints, each with a newline at its end.
use Rattle.std.specs.Prelude.{ℕ, List, [], ◌∷◌, length, OnOk, Option, Result, codes, decimal}
use Rattle.std.specs.List.{concat}
use Rattle.std.specs.Io.KnownBytes.{Appends}
use Rattle.model.specs.Data.{JobData, NetData, task_count, station_count, link_count}
use Rattle.model.specs.Plans.{PlanData}
use Rattle.model.specs.Refusals.{refusal_number, refusal_detail}
use Rattle.model.specs.declared.refusal.Refusal.{Refusal}
use Rattle.marker.specs.Letters.{letter}
use Rattle.marker.specs.declared.verdict.Verdict.{Verdict}
use Rattle.certificate.specs.Slips.{slip_of}
use Rattle.certificate.specs.declared.slip.Slip.{Slip}
use Rattle.certificate.specs.declared.slip.Slip.TheVariants.{Lawful, Broken}
use Rattle.script.specs.declared.line.RouteKind.{RouteKind}
use Rattle.script.specs.declared.line.RouteKind.TheVariants.{Hops, Slowness, Written}
use Rattle.session.specs.declared.stop.Maker.{Maker}
use Rattle.session.specs.declared.stop.Maker.TheVariants.{Job, Network, Routes}

-- what ends well has written the text after what was written before; `contents` says what that is
abbrev pub Adds : {W E : Type 0} → (W → Option (List ℕ)) → Result (Unit {0}) E → W → W → List ℕ → Type 0
Adds contents result old new text = OnOk result (Appends (contents old) (contents new) text)

-- what is made of a setting, by its name
abbrev pub maker_name : Maker → List ℕ
maker_name Job = codes "job"
maker_name Network = codes "network"
maker_name Routes = codes "routes"

-- why the maker of this name refused
unfoldable pub refusal_line : List ℕ → Refusal → List ℕ
refusal_line maker r =
    concat (maker ∷ codes " refused " ∷ decimal (refusal_number r) ∷ codes " " ∷ decimal (refusal_detail r) ∷ codes "\n" ∷ [])

unfoldable pub not_understood_line : ℕ → List ℕ
not_understood_line n = concat (codes "line " ∷ decimal n ∷ codes " not understood\n" ∷ [])

-- how the routes came about
abbrev pub origin_text : RouteKind → List ℕ
origin_text Hops = codes "by hops"
origin_text Slowness = codes "by slowness"
origin_text Written = codes "as written"

-- what was made
unfoldable pub made_line : JobData → NetData → RouteKind → List ℕ
made_line J N kind =
    concat
    (codes "job of " ∷ decimal (task_count J) ∷ codes " tasks and " ∷ decimal (length J.edges) ∷ codes " edges, network of "
    ∷ decimal (station_count N) ∷ codes " stations and " ∷ decimal (link_count N) ∷ codes " links, routes " ∷ origin_text kind ∷ codes "\n" ∷ [])

-- a slip for a plan of the job
unfoldable pub slip_line : JobData → Slip → List ℕ
slip_line J (Lawful placed length) =
    concat
    (codes "lawful placed " ∷ decimal placed ∷ codes " of " ∷ decimal (task_count J) ∷ codes " length " ∷ decimal length ∷ codes "\n" ∷ [])
slip_line J (Broken rule first second) =
    concat (codes "broken " ∷ (letter rule ∷ []) ∷ codes " " ∷ decimal first ∷ codes " " ∷ decimal second ∷ codes "\n" ∷ [])

-- the verdict on a plan, printed as its slip is
abbrev pub verdict_line : JobData → NetData → PlanData → Verdict → List ℕ
verdict_line J N P v = slip_line J (slip_of J N P v)
