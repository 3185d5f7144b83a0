-- The number of a replay's refusal.
use Rattle.std.specs.Prelude.{ℕ}
use Rattle.replay.specs.declared.fault.ShortLog.{ShortLog}

abbrev pub number : {M : Type 0} → ShortLog M → ℕ
number e = 14
