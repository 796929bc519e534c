use Rattle.session.proofs.OneCall.{answered, one_reply}
use Rattle.session.proofs.draw.carry_out.Goals as goal

pub unwrap-requires : goal.unwrap-requires
unwrap-requires g c = answered _ _ _ _ _ _ _ c.draw_on-sheet.ensures.answers

pub returns-clause-reply : goal.returns-clause-reply
returns-clause-reply g c = one_reply _ _ _ _ _ _ _ c.draw_on-sheet.ensures.answers _ _ c.unwrap.ensures c.draw_on-sheet.ensures.sheet
