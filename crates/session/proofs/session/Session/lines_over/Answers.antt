use Rattle.model.specs.Data.{job_of, net_of}
use Rattle.session.specs.Going.{progress_of}
use Rattle.session.proofs.FollowedLines.{given_first, line_followed}
use Rattle.session.proofs.session.Session.lines_over.Goals as goal

pub loop-said-preserved : goal.loop-said-preserved
loop-said-preserved g c =
    let made = c.args.made.now in
    let first = given_first c.loop-said.self.reader c.next.new.self c.in-Some.said c.in-Ok.line c.bytes-bytes.result.now c.in-Some.ensures.steps c.in-Ok.is c.bytes-bytes.ensures in (
      c.loop-said.invariant.0,
      line_followed (job_of made.job.now) (net_of (g.R.Routes.over made.routes.now)) (g.R.Routes.route made.routes.now) _ _ _
          (progress_of g.T.Askable.meaning c.loop-said.sheet c.loop-said.work) (progress_of g.T.Askable.meaning c.in_ok-sheet.sheet c.follow_line.new.work) _ _ _ _ _ _ first
          c.in_ok-sheet.ensures.text c.in_ok-sheet.ensures.progress c.loop-said.invariant.1,
    )
