-- What the program prints of a script.
use Rattle.std.specs.Prelude.{◌≡◌, ℕ, if◌then◌else◌, List, [], ◌∷◌, ◌++◌, codes, Some, None, Ok, Err, Option, Result}
use Rattle.std.specs.Option.{option_map_or}
use Rattle.model.specs.Data.{JobData, NetData, station_count}
use Rattle.model.specs.JobLimits.{job_refusal}
use Rattle.model.specs.NetworkLimits.{network_refusal}
use Rattle.model.specs.declared.refusal.Refusal.{Refusal}
use Rattle.routes.specs.Kinds.{fewer, no_hop, one_hop_more, faster, no_delay, slower_by}
use Rattle.routes.specs.Legs.{Ways}
use Rattle.routes.specs.Search.{searched_route}
use Rattle.routes.specs.Tables.{written_refusal, written_route}
use Rattle.routes.specs.declared.hop.Hop.{Hop}
use Rattle.script.specs.Lines.{lines_of}
use Rattle.script.specs.declared.line.RouteKind.{RouteKind}
use Rattle.script.specs.declared.line.RouteKind.TheVariants.{Hops, Slowness, Written}
use Rattle.session.specs.Drawings.{beginning, followed}
use Rattle.session.specs.Printing.{refusal_line, not_understood_line, made_line}
use Rattle.session.specs.RouteRows.{table_rows}
use Rattle.session.specs.Settings.{SettingData, setting_of, no_setting, is_setting, with_line}
use Rattle.session.specs.TableForms.{empty_by}
use Rattle.session.specs.declared.table_form.TableForm.{TableForm}
use Rattle.session.specs.Statements.{Statement, statements}
use Rattle.session.specs.declared.setting.Setting.{Setting}
use Rattle.session.specs.declared.stop.Stop.{Stop}
use Rattle.session.specs.declared.stop.Stop.TheVariants.{NotUnderstood, Refused, Failed}

-- the lines of the setting, read to their end
pub data Gathering : Type 0 where
  -- what they gather, and the statements that follow them
  ready : SettingData → List Statement → Gathering
  -- the line of this number is not understood
  stopped : ℕ → Gathering

-- one statement after a setting, and what `rest` makes of the setting with its line
abbrev pub gathering_before : (SettingData → Gathering) → SettingData → Statement → List Statement → Gathering
gathering_before rest S s ss =
    option_map_or (λ line. if is_setting line then rest (with_line S line) else ready S (s ∷ ss)) s.said (stopped s.number)

-- the first statements gather the setting; the first line that does not belong to it ends it
abbrev pub gathering : SettingData → List Statement → Gathering
gathering S [] = ready S []
gathering S (s ∷ ss) = gathering_before (λ T. gathering T ss) S s ss

-- what is gathered, with the reader past line n and these statements to come, is this
abbrev pub Gathers : Result Setting Stop → ℕ → List Statement → Gathering → Type 0
Gathers (Ok setting) n rest g = g ≡ ready (setting_of setting) rest
Gathers (Err NotUnderstood) n rest g = g ≡ stopped n
Gathers (Err (Refused maker r)) n rest g = ⊥
Gathers (Err (Failed e)) n rest g = Unit {0}

-- the refusal of a maker, or else what is printed where it makes something
abbrev pub unless_refused : List ℕ → Option Refusal → List ℕ → List ℕ
unless_refused maker None text = text
unless_refused maker (Some r) text = refusal_line maker r

-- what is printed once the routes are there: what was made, and then of the other lines; over an empty timetable of the form that the script asks for
abbrev pub over_routes : JobData → NetData → TableForm → RouteKind → Ways → List Statement → List ℕ
over_routes J N form kind ρ ss = made_line J N kind ++ followed J N ρ (beginning (empty_by form)) ss

-- what is printed once the job and the network are there
abbrev pub over_network : JobData → NetData → TableForm → RouteKind → List (Option (List Hop)) → List Statement → List ℕ
over_network J N form Hops written ss = over_routes J N form Hops (searched_route fewer one_hop_more N no_hop) ss
over_network J N form Slowness written ss = over_routes J N form Slowness (searched_route faster slower_by N no_delay) ss
over_network J N form Written written ss =
    let rows = table_rows (station_count N) written in
    unless_refused (codes "routes") (written_refusal N rows) (over_routes J N form Written (written_route N rows) ss)

-- what is printed of a setting and the statements after it
abbrev pub over_setting : SettingData → List Statement → List ℕ
over_setting S ss =
    unless_refused (codes "job") (job_refusal S.works S.edges)
    (unless_refused (codes "network") (network_refusal S.stations S.links)
    (over_network (record { works = S.works; edges = S.edges }) (record { stations = S.stations; links = S.links }) S.table S.kind S.written ss))

abbrev pub over_gathering : Gathering → List ℕ
over_gathering (ready S ss) = over_setting S ss
over_gathering (stopped n) = not_understood_line n

-- what the program prints of a script
abbrev pub printed : List ℕ → List ℕ
printed text = over_gathering (gathering no_setting (statements 0 (lines_of text)))
