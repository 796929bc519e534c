use Rattle.session.proofs.ScriptPlans.{every_plan_of_a_script}
use Rattle.session.proofs.follow.follow_script.Goals as goal

pub returns-in-Ok-clause-certified : goal.returns-in-Ok-clause-certified
returns-in-Ok-clause-certified g c = every_plan_of_a_script

pub returns-in-Err-NotUnderstood-clause-certified : goal.returns-in-Err-NotUnderstood-clause-certified
returns-in-Err-NotUnderstood-clause-certified g c = every_plan_of_a_script

pub returns-in-Err-Refused-clause-certified : goal.returns-in-Err-Refused-clause-certified
returns-in-Err-Refused-clause-certified g c = every_plan_of_a_script

pub returns-clause-certified : goal.returns-clause-certified
returns-clause-certified g c = every_plan_of_a_script
