-- What the parts of a command are that borrow its words, and the sizes among them.
use Rattle.std.specs.Prelude.{⊤}
use Rattle.fish_command.specs.Request.{Request, run, sample, select}
use Rattle.fish_command.specs.Sizes.{AreBits, ArePages}
use Rattle.fish_command.specs.declared.request.CommandParts.{CommandParts}
use Rattle.fish_command.specs.declared.request.CommandParts.TheVariants as parts

-- the parts of a command
abbrev pub request_of_parts : CommandParts → Request
request_of_parts (parts.Select def value file layout) = select def.now value.now file.now layout
request_of_parts (parts.Run store script pages bits) = run store.now script.now pages bits
request_of_parts (parts.Sample number) = sample number

-- the sizes among the parts are within their bounds
abbrev pub IsSized : CommandParts → Type 0
IsSized (parts.Select def value file layout) = ⊤
IsSized (parts.Run store script pages bits) = ArePages pages × AreBits bits
IsSized (parts.Sample number) = ⊤
