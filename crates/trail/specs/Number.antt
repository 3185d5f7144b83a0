-- The number of each refusal of a trail.
use Rattle.std.specs.Prelude.{ℕ}
use Rattle.trail.specs.declared.fault.TrailFault.{TrailFault}
use Rattle.trail.specs.declared.fault.TrailFault.TheVariants.{Full}

abbrev pub number : TrailFault → ℕ
number Full = 14
