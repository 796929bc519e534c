-- Which timetable a script asks for.
use Rattle.std.specs.Prelude.{ℕ, ◌*◌}
use Rattle.timetable.specs.Tables.{Table, empty_table}
use Rattle.script.specs.declared.line.TimetableKind.{TimetableKind}
use Rattle.script.specs.declared.line.TimetableKind.TheVariants.{Roll, Bits}
use Rattle.session.specs.declared.table_form.TableForm.{TableForm}

-- the tick by which every booking ends: a bit sheet has 64 ticks in each word
abbrev pub horizon_of : TimetableKind → ℕ
horizon_of Roll = 2000000000
horizon_of (Bits words) = 64 * words

-- the timetable of this form, with no bookings
abbrev pub empty_by : TableForm → Table
empty_by form = empty_table (horizon_of form.kind) form.most
