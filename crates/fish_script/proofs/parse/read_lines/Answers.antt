-- One line more, and then the end.
use Rattle.std.proofs.Common.{length, sym, ◌∙◌, arith}
use Rattle.std.proofs.lemmas.Bool.{eqb-true}
use Rattle.fish_script.proofs.Reading.{end_refusal, end_script, more_read}
use Rattle.fish_script.proofs.parse.read_lines.Goals as goal

pub loop-rest-preserved : goal.loop-rest-preserved
loop-rest-preserved c = record {
  read = more_read c.args.b.now c.loop-rest.rest.now c.first_line.result.0.now c.first_line.result.1.now c.loop-rest.number
      c.loop-rest.builder c.take_line.new.self c.loop-rest.invariant.read c.first_line.ensures.lines c.in_ok-take_line.ensures.taken;
  few = omega (arith, c.loop-rest.invariant.few, c.first_line.ensures.shorter);
}

pub returns-clause-script : goal.returns-clause-script
returns-clause-script c =
    end_script c.finish.result c.args.b.now c.loop-rest.rest.now c.loop-rest.number c.loop-rest.builder c.requires.size
    c.loop-rest.invariant.read
    (eqb-true (length c.loop-rest.rest.now) 0 (sym c.is_empty.ensures ∙ c.loop-rest-test.false)) c.finish.ensures.outside

pub returns-clause-refused : goal.returns-clause-refused
returns-clause-refused c =
    end_refusal c.finish.result c.args.b.now c.loop-rest.rest.now c.loop-rest.number c.loop-rest.builder c.requires.size
    c.loop-rest.invariant.read
    (eqb-true (length c.loop-rest.rest.now) 0 (sym c.is_empty.ensures ∙ c.loop-rest-test.false)) c.finish.ensures.inside
