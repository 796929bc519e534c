-- What following a script changes.
use Rattle.std.specs.Prelude.{◌≡◌, ℕ, List, Option, Result}
use Rattle.session.specs.Stops.{Writes}
use Rattle.session.specs.declared.session.Session.{Session}
use Rattle.session.specs.declared.stop.Stop.{Stop}

-- the text is written to what was written to before; `contents` says what it holds
abbrev pub Follows : {W : Type 0} → (W → Option (List ℕ)) → Result (Unit {0}) Stop → Session W → Session W → List ℕ → Type 0
Follows contents result old new text =
    (new.out.ghost_name ≡ old.out.ghost_name) × Writes result (contents old.out.now) (contents new.out.now) new.reader.number text
