-- Up to the byte that was found, or the end, no byte passes the search's test; each of these joins the field.
use Rattle.fish_csv.proofs.Runs.{Runs-found, joins-plain, joins-quoted}
use Rattle.std.proofs.Common.{arith}
use Rattle.csv.specs.Machine.{Runs}
use Rattle.csv.specs.declared.parser.State.TheVariants as st
use Rattle.memchr.specs.Find.{is_byte, is_byte3}
use Rattle.fish_csv.proofs.machine.run_len.Goals as goal

pub returns-in-Plain-clause-runs : goal.returns-in-Plain-clause-runs
returns-in-Plain-clause-runs c =
    rw (c.in-Plain.is, c.unwrap_or.ensures)
    (Runs-found st.InField (is_byte3 44 13 10) c.args.b.now c.memchr3.result joins-plain c.memchr3.ensures)

pub returns-in-Quoted-clause-runs : goal.returns-in-Quoted-clause-runs
returns-in-Quoted-clause-runs c =
    rw (c.in-Quoted.is, c.unwrap_or-in-Quoted.ensures)
    (Runs-found st.InQuoted (is_byte 34) c.args.b.now c.memchr.result joins-quoted c.memchr.ensures)

pub returns-in_default : goal.returns-in_default
unfolding Runs
returns-in_default c = record { within = omega arith; runs = tt }
