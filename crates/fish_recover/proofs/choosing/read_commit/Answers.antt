-- The bytes that were read are the body's.
use Rattle.std.proofs.Common.{◌≡◌, ◌∙◌, ℕ, List, ◌++◌, length, take, drop, ap, sym, subst, arith, refl}
use Rattle.std.specs.Prelude.{IfSome}
use Rattle.std.proofs.Math.Seq.{take-append_seam}
use Rattle.std.proofs.lemmas.Option.{IfSome_then}
use Rattle.fish_catalog.specs.declared.commit.Commit.{Commit}
use Rattle.fish_image.specs.Reading.{IsBodyOf}
use Rattle.fish_recover.proofs.Pieces.{part_read}
use Rattle.fish_slots.specs.Offsets.{body_at, body_bytes}
use Rattle.fish_recover.proofs.choosing.read_commit.Goals as goal

pub returns-in-Some-clause-body : goal.returns-in-Some-clause-body
returns-in-Some-clause-body g c =
    let buf : List ℕ = c.read.new.buf in
    let rest : List ℕ = drop (length buf) c.in_ok-body.body.items in
    let full : c.in_ok-body.body.len ≡ length buf = omega arith in
    let same : c.deref.result.now ≡ buf = c.deref.ensures.value ∙ ap (λ n. take n (buf ++ rest)) full ∙ take-append_seam buf rest in
    let told : IsBodyOf c.in-Some.commit (take c.in_ok-count.count c.deref.result.now) =
    subst (λ o. IfSome o (λ d. IsBodyOf d (take c.in_ok-count.count c.deref.result.now))) c.in-Some.is c.in_ok-commit.ensures.found in
    IfSome_then (g.D.Disk.content c.read.new.self) c.in_ok-count.ensures.bytes
    (λ content gave. subst (IsBodyOf c.in-Some.commit)
    (ap (take c.in_ok-count.count) same
    ∙ part_read _ (body_at c.args.slot) body_bytes c.in_ok-count.count buf content (omega arith) (omega arith) gave.0 gave.1) told)

pub returns-clause-refused : goal.returns-clause-refused
returns-clause-refused g c =
    let buf : List ℕ = c.read.new.buf in
    let rest : List ℕ = drop (length buf) c.in_ok-body.body.items in
    let full : c.in_ok-body.body.len ≡ length buf = omega arith in
    let same : c.deref.result.now ≡ buf = c.deref.ensures.value ∙ ap (λ n. take n (buf ++ rest)) full ∙ take-append_seam buf rest in
    IfSome_then (g.D.Disk.content c.read.new.self) c.in_ok-count.ensures.bytes
    (λ content gave. (
      refl,
      λ (d : Commit) told. absurd (cc (
        c.in_ok-commit.ensures.only d (subst (IsBodyOf d)
            (sym (ap (take c.in_ok-count.count) same
            ∙ part_read _ (body_at c.args.slot) body_bytes c.in_ok-count.count buf content (omega arith) (omega arith)
            gave.0 gave.1)) told),
        c.in-None.is,
      )),
    ))
