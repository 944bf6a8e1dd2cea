-- A script has no more bytes than it may have, so what was read is the whole file.
use Rattle.std.proofs.Common.{◌∙◌, ap, sym}
use Rattle.std.specs.Prelude.{Some}
use Rattle.std.proofs.lemmas.Option.{IfSome_then}
use Rattle.fish_script.specs.Refusals.{IsScript}
use Rattle.fish_program.proofs.FirstBytes.{all_within}
use Rattle.fish_program.proofs.script.read_script.Goals as goal

pub returns-clause-script : goal.returns-clause-script
returns-clause-script g c =
    let text = c.in_ok-text.text in
    let is : IsScript text c.in_ok-script.script = rw (sym c.as_bytes.ensures) c.in_ok-script.ensures.script in
    record {
      text = text;
      of_file = IfSome_then (g.H.Host.files c.read_file.new.host) c.in_ok-text.ensures.file
          (λ files read. read.1 ∙ ap Some (sym (all_within 1048576 read.0 text read.2 is.size)));
      is = is;
    }
