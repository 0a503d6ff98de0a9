-- What a shell does next.
use Rattle.ados_machine.specs.declared.phases.Parted.{Parted}
use Rattle.ados_machine.specs.declared.phases.Wait.{Wait}

-- what a shell does next: it takes the next line of its newest frame, or of its input; it continues a line whose command substitution has
-- ended; or it waits
pub data Phase : Type 0 where
  Ready : Phase
  GoingOn : Parted → Phase
  Waiting : Wait → Phase
