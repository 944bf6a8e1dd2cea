-- The form's code leaves one kind of header.
use Rattle.std.proofs.Common.{arith}
use Rattle.fish_value.specs.declared.field.Form.TheVariants.{Json, Csv}
use Rattle.fish_layout.proofs.Headers.{IsHeader-form, IsHeader-void}
use Rattle.fish_layout.proofs.header.header_of.Goals as goal

pub returns-in-0 : goal.returns-in-0
returns-in-0 c = IsHeader-form c.args.word Json _ (omega arith) c.read_record_header.ensures

pub returns-in-1 : goal.returns-in-1
returns-in-1 c = IsHeader-form c.args.word Csv _ (omega arith) c.read_record_header-in-1.ensures

pub returns-in_default : goal.returns-in_default
returns-in_default c = IsHeader-void c.args.word _ (omega arith) c.read_void_header.ensures
