-- What was stored is what the item tells.
use Rattle.std.proofs.Common.{◌∙◌, ℕ, List, [], ap, inl, inr, refl, sym, subst, arith}
use Rattle.fish_ingest.proofs.IngestionStart.{idle_law}
use Rattle.fish_lanes.proofs.Parts.{err_any}
use Rattle.fish_lanes.proofs.Gaining.{gains_self}
use Rattle.fish_lanes.proofs.Keeping.{keeps_self}
use Rattle.fish_lanes.proofs.Storing.{file_item, file_part, nothing_part}
use Rattle.fish_lanes.specs.within.Doing.{IsItem, IsPart}
use Rattle.fish_lanes.specs.within.Pasts.{anywhere}
use Rattle.fish_lanes.specs.within.Storing.{item_of}
use Rattle.fish_lanes.specs.declared.work.Work.TheVariants as work
use Rattle.fish_report.specs.declared.item.Item.TheVariants as item
use Rattle.fish_rule.specs.Passes.{view}
use Rattle.fish_lanes.proofs.ingesting.ingest_file.Goals as goal

pub returns-in_err-name-clause-part : goal.returns-in_err-name-clause-part
returns-in_err-name-clause-part g c =
    let v = view c.args.pass.now in
    let w = work.Ingest c.args.form c.args.begin c.args.name.now c.args.file.now in
    err_any c.from_residual.result (IsPart v v w)
    (nothing_part v w c.requires.start.outside (idle_law v c.requires.pass.stands c.requires.start))

pub returns-then-file-gt-MAX_FILE-clause-item : goal.returns-then-file-gt-MAX_FILE-clause-item
returns-then-file-gt-MAX_FILE-clause-item g c =
    let v = view c.args.pass.now in
    record {
      gained = record {
        registry = keeps_self v;
        rows = [];
        gains = gains_self v c.requires.start.outside (idle_law v c.requires.pass.stands c.requires.start);
        first = refl;
      };
      shuts = λ shut e. inl e;
      fit = inr (inr (record {
        is = ap (λ (z : List ℕ). item.IngestTooLong z 0 0) c.in_ok-name.ensures;
        past = (let long = c.if-file-gt-MAX_FILE.true in omega arith);
      }));
    }

pub returns-in-Ok-clause-item : goal.returns-in-Ok-clause-item
returns-in-Ok-clause-item g c =
    let v = view c.args.pass.now in
    let u = view c.ingest_records.new.pass in
    let w = work.Ingest c.args.form c.args.begin c.args.name.now c.args.file.now in
    let tally = c.ingest_records.new.tally in
    subst (IsItem anywhere v u w)
    (sym (c.item_of.ensures ∙ ap (λ (z : List ℕ). item_of z tally c.in-Ok.end) c.in_ok-name.ensures))
    (file_item v u c.args.form c.args.begin c.args.name.now c.args.file.now tally c.in-Ok.end
    (let short = c.if-file-gt-MAX_FILE.false in omega arith) c.in-Ok.ensures.ends)

pub returns-in-Err-clause-part : goal.returns-in-Err-clause-part
returns-in-Err-clause-part g c = file_part (view c.args.pass.now) (view c.ingest_records.new.pass) c.args.form c.args.begin
    c.args.name.now c.args.file.now c.in-Err.ensures.part
