-- What a host in memory answers when a file is asked for.
use Rattle.std.specs.Prelude.{ℕ, List, Bool, ◌||◌, is_none}
use Rattle.fish_outside.specs.Memory.{file_of, is_planned, new_plan}
use Rattle.fish_outside.specs.declared.memory.HostFile.{HostFile}
use Rattle.fish_outside.specs.declared.memory.MemoryHost.{MemoryHost}
use Rattle.fish_outside.specs.declared.memory.MemorySource.{MemorySource}

-- a feed of a file: all its bytes are left, and its reads fail where the file says
abbrev pub feed_of : HostFile → MemorySource
feed_of file = record { rest = file.bytes; plan = new_plan file.fails }

-- the next call fails: it is planned to, or the host has no file of this name
abbrev pub is_refused : MemoryHost → List ℕ → Bool
is_refused host name = is_planned host.plan || is_none (file_of host.files name)
