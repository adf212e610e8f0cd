-- Which faults each call on a store's folder may have.

use Rattle.durable_log.specs.declared.fault.StoreFault.{StoreFault}
use Rattle.durable_log.specs.declared.fault.StoreFault.TheVariants as store_faults
use Rattle.log_files.specs.declared.fault.FolderFault.{FolderFault}
use Rattle.log_files.specs.declared.fault.FolderFault.TheVariants.{CannotWrite, Damaged, InUse}
use Rattle.log_files.specs.declared.fault.FolderFault.TheVariants.{LaterFormat, NoMemory}
use Rattle.log_files.specs.declared.fault.FolderFault.TheVariants.{OtherReplica, Unsound}

-- The fault of a log in a file.
abbrev pub folder_fault_of : StoreFault → FolderFault
folder_fault_of store_faults.NoMemory = NoMemory
folder_fault_of store_faults.NoSpace = CannotWrite
folder_fault_of (store_faults.Damaged octets) = Damaged octets
folder_fault_of (store_faults.Unsound octets) = Unsound octets
folder_fault_of store_faults.LaterFormat = LaterFormat
folder_fault_of (store_faults.OtherReplica replica) = OtherReplica replica
folder_fault_of store_faults.Failed = CannotWrite

-- Opening a folder may have this fault: none of a log.
abbrev pub IsOpenFault : FolderFault → Type 0
IsOpenFault InUse = Unit {0}
IsOpenFault CannotWrite = Unit {0}
IsOpenFault NoMemory = Unit {0}
IsOpenFault fault = ⊥

-- Reading a log may have this fault: the folder is locked already.
abbrev pub IsReadFault : FolderFault → Type 0
IsReadFault InUse = ⊥
IsReadFault fault = Unit {0}

-- Making a log may have this fault: there is nothing to read.
abbrev pub IsMakeFault : FolderFault → Type 0
IsMakeFault CannotWrite = Unit {0}
IsMakeFault NoMemory = Unit {0}
IsMakeFault fault = ⊥
