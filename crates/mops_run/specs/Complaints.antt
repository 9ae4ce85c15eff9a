-- What standard error says of a run that could not be done.
use Rattle.std.specs.Prelude.{ℕ, List, Option, Some, None, codes}
use Rattle.mops_run.specs.declared.top.Status.{Status}
use Rattle.mops_run.specs.declared.top.Status.TheVariants.{Done, DoneWithRefusals, Usage, ReadFault, WriteFault, NoMemory, InputTooLong}

-- the line of standard error, by the status
abbrev pub complaint_of : Status → Option (List ℕ)
complaint_of Done = None
complaint_of DoneWithRefusals = None
complaint_of Usage = Some (codes "usage: mops_run watch | link | generate NUMBER NIGHTS OBJECTS | summary NUMBER NIGHTS OBJECTS")
complaint_of ReadFault = Some (codes "read fault")
complaint_of WriteFault = Some (codes "write fault")
complaint_of NoMemory = Some (codes "out of memory")
complaint_of InputTooLong = Some (codes "input too long")
