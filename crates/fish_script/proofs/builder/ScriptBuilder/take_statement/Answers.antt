-- One statement more.
use Rattle.std.proofs.Common.{◌≡◌}
use Rattle.std.specs.Prelude.{true}
use Rattle.fish_script.proofs.Steps.{takes_statement}
use Rattle.fish_script.proofs.builder.ScriptBuilder.take_statement.Goals as goal

pub returns-clause-taken : goal.returns-clause-taken
returns-clause-taken c ws h =
    takes_statement ws c.args.self.now c.push.new.self c.args.statement_line c.in_ok-statement.statement h
    (λ no. let yes : c.is_in_front.result ≡ true = c.is_in_front.ensures.1 no in let not_so = c.if-is_in_front.false in cc)
    c.in_ok-statement.ensures.read c.in_default.ensures c.in_ok-push.ensures
