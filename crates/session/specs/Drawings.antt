-- What the lines after the setting make and print: of the candidate's answer, and of the one sheet.
use Rattle.std.specs.Prelude.{ℕ, List, [], ◌∷◌, ◌++◌, codes, Some, None, Option}
use Rattle.std.specs.List.{concat}
use Rattle.std.specs.Option.{option_map_or, option_and_then}
use Rattle.model.specs.Data.{JobData, NetData}
use Rattle.model.specs.Plans.{PlanData, blank_plan}
use Rattle.routes.specs.Legs.{Ways}
use Rattle.timetable.specs.Tables.{Table}
use Rattle.planner.specs.Drawing.{new_state}
use Rattle.planner.specs.Trials.{BeingDrawn}
use Rattle.certificate.specs.Answers.{answer_text}
use Rattle.certificate.specs.declared.call.Answer.{Answer}
use Rattle.script.specs.Data.{LineData, show}
use Rattle.script.specs.Read.{spaced, line_words}
use Rattle.session.specs.Answers.{plan_after, text_of}
use Rattle.session.specs.Printing.{not_understood_line, slip_line}
use Rattle.session.specs.Requests.{ScriptSheet, open_sheet, drawn_plan, request_of, replied}
use Rattle.session.specs.Shows.{shown}
use Rattle.session.specs.Statements.{Statement}
use Rattle.session.specs.declared.request.Reply.{Reply}
use Rattle.session.specs.declared.request.Reply.TheVariants.{Answered, Marked}
use Rattle.session.specs.declared.request.Request.{Request}

-- how far a script has come: the candidate's answer, and the sheet
pub record Progress : Type 0 where
  pub answer : PlanData
  pub sheet : ScriptSheet

-- before the first of these lines: a blank answer, and a new sheet over a timetable
abbrev pub beginning : Table → Progress
beginning T = record { answer = blank_plan; sheet = open_sheet (BeingDrawn (new_state T)) }

-- the words of the line, and what the call answers
unfoldable pub call_line : List ℕ → Answer → List ℕ
call_line bytes answer = concat (spaced (line_words bytes) ∷ codes ": " ∷ answer_text answer ∷ codes "\n" ∷ [])

-- an answer, or a slip
abbrev pub reply_line : JobData → List ℕ → Reply → List ℕ
reply_line J bytes (Answered answer) = call_line bytes answer
reply_line J bytes (Marked slip) = slip_line J slip

module _ (J : JobData) (N : NetData) (ρ : Ways) where
  -- what a line leaves that asks something of the sheet, or nothing
  abbrev pub left_by : Progress → LineData → Option Request → Progress
  left_by G line None = record G { answer = plan_after G.answer line }
  left_by G line (Some request) = record G { sheet = (replied J N ρ G.sheet request).sheet }

  abbrev pub progress_after : Progress → LineData → Progress
  progress_after G line = left_by G line (request_of line)

  -- what a line prints that asks nothing of the sheet; none where it is not understood after the setting
  abbrev pub other_text : Progress → LineData → Option (List ℕ)
  other_text G show = Some (shown J N ρ (drawn_plan G.sheet))
  other_text G line = text_of J N ρ G.answer line

  abbrev pub text_by : Progress → List ℕ → LineData → Option Request → Option (List ℕ)
  text_by G bytes line None = other_text G line
  text_by G bytes line (Some request) = Some (reply_line J bytes (replied J N ρ G.sheet request).reply)

  -- what a line of these bytes prints
  abbrev pub line_text : Progress → List ℕ → LineData → Option (List ℕ)
  line_text G bytes line = text_by G bytes line (request_of line)

  -- what a statement prints, before what the later ones print of what it leaves
  abbrev pub printed_before : (Progress → List ℕ) → Progress → Statement → List ℕ
  printed_before later G s =
      option_map_or (λ text. text ++ later (option_map_or (progress_after G) s.said G)) (option_and_then (line_text G s.bytes) s.said)
      (not_understood_line s.number)

  -- what the statements after the setting print; none is followed after one that is not understood
  abbrev pub followed : Progress → List Statement → List ℕ
  followed G [] = []
  followed G (s ∷ ss) = printed_before (λ H. followed H ss) G s
