-- The words are a record of these parts alone.
use Rattle.std.proofs.Common.{◌≡◌, ◌*◌, ℕ, List, length, Bool, true, false, sym, subst, ◌∙◌}
use Rattle.std.proofs.lemmas.Result.{IfOk-weaker}
use Rattle.fish_catalog.specs.declared.commit.Commit.{Commit}
use Rattle.fish_layout.proofs.Once.{body_once}
use Rattle.fish_layout.specs.Body.{IsBody}
use Rattle.fish_layout.specs.declared.parts.BodyParts.{BodyParts}
use Rattle.fish_image.specs.Log.{IsKeptAt, IsRecordAt, behind_record}
use Rattle.fish_image.specs.within.Progress.{TookRegion}
use Rattle.fish_image.specs.Reached.{Reached}
use Rattle.fish_image.specs.declared.progress.Progress.{Progress}
use Rattle.fish_image.proofs.region.take_record.Goals as goal

-- what is asked of the parts is asked of the record
of_parts : (yes : Bool) (c : Commit) (s : Reached) (lines : ℕ) (r : List ℕ) (p : BodyParts) (new : Progress) → length r ≡ 4 * lines
    → IsBody p r → p.number ≡ s.number → TookRegion yes c (λ n. IsKeptAt c s lines p × (n ≡ behind_record c s lines p)) new
    → TookRegion yes c (λ n. (q : BodyParts) × IsRecordAt c s lines r q × (n ≡ behind_record c s lines q)) new
of_parts true c s lines r p new size body number = λ took.
    (took.0, (p, record { size = size; body = body; number = number; kept = took.1.0 }, took.1.1), took.2)
of_parts false c s lines r p new size body number = λ none n follows.
    let same : follows.0 ≡ p = body_once follows.1.body body (follows.1.number ∙ sym number) in
    none n (
      subst (λ (q : BodyParts). IsKeptAt c s lines q) same follows.1.kept,
      subst (λ (q : BodyParts). n ≡ behind_record c s lines q) same follows.2,
    )

pub returns : goal.returns
returns c =
    let body = rw c.in-Some.is at c.in_ok-parts.ensures in
    IfOk-weaker c.take_parts-taken.result _ _ (λ yes took k s terms h.
    of_parts yes k s c.args.lines c.args.r.now c.in-Some.parts _ c.requires.size body.0 (body.1 ∙ h.number) (took k s terms h))
    c.take_parts-taken.ensures
