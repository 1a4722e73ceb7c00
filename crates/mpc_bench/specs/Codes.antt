-- Which errors say that what was sent is no system.
use Rattle.mpc_bench.specs.declared.passing.SentError.{SentError}
use Rattle.mpc_bench.specs.declared.passing.SentError.TheVariants.{Unreadable, NoMemory}

abbrev pub IfUnreadable : SentError → Type 0 → Type 0
IfUnreadable Unreadable P = P
IfUnreadable NoMemory P = Unit {0}

abbrev pub no_memory : SentError
no_memory = NoMemory
