-- The number by which each refusal is told.
use Rattle.std.specs.Prelude.{ℕ}
use Rattle.law_table.specs.declared.fault.EntryFault.{EntryFault}
use Rattle.law_table.specs.declared.fault.EntryFault.TheVariants.{OutOfRange, Full}

abbrev pub entry_told : EntryFault → ℕ
entry_told OutOfRange = 13
entry_told Full = 14
