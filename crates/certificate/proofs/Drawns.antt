-- What is drawn is held, and so certified.
use Rattle.model.specs.Data.{JobData, NetData}
use Rattle.routes.specs.Legs.{Ways}
use Rattle.planner.specs.Outcomes.{DrawState}
use Rattle.planner.specs.States.{Given}
use Rattle.certificate.specs.Certificate.{Drawn, new_sheet, one_more, EveryDrawnPlan}
use Rattle.certificate.proofs.Helds.{Held}
use Rattle.certificate.proofs.Places.{placed_held}
use Rattle.certificate.proofs.Earliests.{held_certified}
use Rattle.certificate.proofs.Blanks.{blank_held}

pub drawn_held : (J : JobData) (N : NetData) (ρ : Ways) → Given J N ρ → (S : DrawState) → Drawn J N ρ S → Held J N ρ S
drawn_held J N ρ G S (new_sheet T empty) = blank_held J N ρ T empty
drawn_held J N ρ G after (one_more {S} t m f drawn e) = placed_held J N ρ G S after t m f (drawn_held J N ρ G S drawn) e

pub every_drawn_plan : EveryDrawnPlan
every_drawn_plan J N ρ G S drawn = held_certified J N ρ G S (drawn_held J N ρ G S drawn)
