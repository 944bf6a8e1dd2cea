-- The bytes in the front of the buffer are the next that are left.
use Rattle.std.proofs.Common.{◌≡◌, length, take, drop, ap, sym, ◌∙◌}
use Rattle.std.specs.Prelude.{Some, min}
use Rattle.fish_outside.proofs.SourceLemmas.{drop-given, drop-end}
use Rattle.fish_outside.proofs.sure.SureSourceSource.read.Goals as goal

pub returns-clause-bytes : goal.returns-clause-bytes
returns-clause-bytes c =
    let at = c.self.inside.at in
    let bytes = c.self.inside.bytes in
    let count = c.copy_front-count.result in
    let buf = c.copy_front-count.new.buf in
    let given : take count buf ≡ take count (drop at bytes) = cc in
    let most : count ≡ min (length (drop at bytes)) (length buf) = cc in (
      ap (λ rest. Some rest) (sym c.self.view_is ∙ drop-given at count bytes (take count buf) given),
      λ some none. drop-end at count (length buf) bytes most some none,
    )
