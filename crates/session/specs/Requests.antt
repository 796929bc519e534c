-- What a line asks of the one sheet of a script, and what it is replied.
use Rattle.std.specs.Prelude.{Some, None, Ok, Err, Option, Result}
use Rattle.model.specs.Data.{JobData, NetData}
use Rattle.model.specs.Plans.{PlanData}
use Rattle.model.specs.declared.refusal.Refusal as Why
use Rattle.routes.specs.Legs.{Ways}
use Rattle.planner.specs.Trials.{Sheet, BeingDrawn, BeingTried}
use Rattle.certificate.specs.Calls.{carry_out}
use Rattle.certificate.specs.Sheets.{plan_on}
use Rattle.certificate.specs.Slips.{slip}
use Rattle.certificate.specs.declared.call.Answer.TheVariants.{Refused, NotAllowed}
use Rattle.certificate.specs.declared.call.Call.TheVariants.{Place, Try, Keep, Strike, TakeBack, Fill}
use Rattle.certificate.specs.declared.slip.Slip.{Slip}
use Rattle.script.specs.Data.{LineData, place, try, keep, strike, back, fill, hand_in}
use Rattle.session.specs.declared.request.Reply.{Reply}
use Rattle.session.specs.declared.request.Reply.TheVariants.{Answered, Marked}
use Rattle.session.specs.declared.request.Request.{Request}
use Rattle.session.specs.declared.request.Request.TheVariants.{Draw, HandIn}

-- the sheet of a script: it is open, or it was handed in with this plan
pub data ScriptSheet : Type 0 where
  open_sheet : Sheet → ScriptSheet
  handed_in : PlanData → ScriptSheet

-- the plan that was drawn on it
abbrev pub drawn_plan : ScriptSheet → PlanData
drawn_plan (open_sheet X) = plan_on X
drawn_plan (handed_in P) = P

-- what a line asks of the sheet
abbrev pub request_of : LineData → Option Request
request_of (place t m) = Some (Draw (Place t m))
request_of (try t m) = Some (Draw (Try t m))
request_of keep = Some (Draw Keep)
request_of strike = Some (Draw Strike)
request_of back = Some (Draw TakeBack)
request_of fill = Some (Draw Fill)
request_of hand_in = Some HandIn
request_of _ = None

-- what is replied, and the sheet that is left
pub record Replied : Type 0 where
  pub reply : Reply
  pub sheet : ScriptSheet

-- the slip, or why the sheet was not marked
abbrev pub reply_by : Result Slip Why.Refusal → Reply
reply_by (Ok s) = Marked s
reply_by (Err e) = Answered (Refused e)

module _ (J : JobData) (N : NetData) (ρ : Ways) where
  -- an open sheet carries out a call; it is handed in and marked where it is not on trial
  abbrev pub open_replied : Sheet → Request → Replied
  open_replied X (Draw call) = let r = carry_out J N ρ X call in record { reply = Answered r.answer; sheet = open_sheet r.sheet }
  open_replied (BeingDrawn S) HandIn = record { reply = reply_by (slip J N ρ S.count S.plan); sheet = handed_in S.plan }
  open_replied (BeingTried S) HandIn = record { reply = Answered NotAllowed; sheet = open_sheet (BeingTried S) }

  -- one that was handed in allows nothing
  abbrev pub replied : ScriptSheet → Request → Replied
  replied (open_sheet X) request = open_replied X request
  replied (handed_in P) request = record { reply = Answered NotAllowed; sheet = handed_in P }
