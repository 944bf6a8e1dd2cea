-- A region is padding or a record.
use Rattle.std.proofs.Common.{◌≡◌, ◌+◌, ◌-◌, ◌^◌, ◌<◌, ◌≤◌, ℕ, List, Bool, true, false, arith, inl, inr, subst}
use Rattle.std.proofs.lemmas.Result.{IfOk-weaker}
use Rattle.fish_catalog.specs.declared.commit.Commit.{Commit}
use Rattle.fish_catalog.specs.declared.entry.Entry.TheVariants.{Void}
use Rattle.fish_layout.specs.declared.parts.BodyParts.{BodyParts}
use Rattle.fish_image.specs.Log.{FollowsIn, IsRecordAt, IsVoidAt, behind_record, void_words}
use Rattle.fish_image.specs.within.Progress.{TookRegion}
use Rattle.fish_image.specs.Reached.{Reached, reached_after}
use Rattle.fish_layout.specs.Pages.{page_of}
use Rattle.fish_image.specs.declared.progress.Progress.{Progress}
use Rattle.fish_image.proofs.Regions.{no_void}
use Rattle.fish_image.proofs.region.take_region.Goals as goal

-- what follows padding follows as padding
not_void : (c : Commit) (s : Reached) (lines : ℕ) (r : List ℕ) (n : Reached) → lines < 2 ^ 16 → r ≡ void_words lines
    → (IsVoidAt c s lines r × (n ≡ reached_after s lines s.places Void) → ⊥) → FollowsIn c s lines r n → ⊥
not_void c s lines r n small is none (inl v) = none v
not_void c s lines r n small is none (inr v) = no_void v.0 r lines v.1.body is small

-- and what follows something else follows as a record
not_record : (c : Commit) (s : Reached) (lines : ℕ) (r : List ℕ) (n : Reached) → (r ≡ void_words lines → ⊥)
    → ((q : BodyParts) × IsRecordAt c s lines r q × (n ≡ behind_record c s lines q) → ⊥) → FollowsIn c s lines r n → ⊥
not_record c s lines r n other none (inl v) = other v.0.words
not_record c s lines r n other none (inr v) = none v

-- padding brings the reading further as a region does
of_void : (yes : Bool) (c : Commit) (s : Reached) (lines : ℕ) (r : List ℕ) (new : Progress) → 1 ≤ lines → lines < 2 ^ 16
    → r ≡ void_words lines → s.line + lines ≤ c.lines
    → TookRegion yes c (λ n. (page_of s.line < page_of (s.line + lines - 1)) × (n ≡ reached_after s lines s.places Void)) new
    → TookRegion yes c (FollowsIn c s lines r) new
of_void true c s lines r new some small is within = λ took.
    (took.0, inl (record { some = some; words = is; crosses = took.1.0; within = within }, took.1.1), took.2)
of_void false c s lines r new some small is within = λ none n follows.
    not_void c s lines r n small is (λ v. none n (v.0.crosses, v.1)) follows

-- and so does a record
of_record : (yes : Bool) (c : Commit) (s : Reached) (lines : ℕ) (r : List ℕ) (new : Progress)
    → (other : r ≡ void_words lines → ⊥)
    → TookRegion yes c (λ n. (q : BodyParts) × IsRecordAt c s lines r q × (n ≡ behind_record c s lines q)) new
    → TookRegion yes c (FollowsIn c s lines r) new
of_record taken c s lines r new other = elim taken as (λ y.
    TookRegion y c (λ n. (q : BodyParts) × IsRecordAt c s lines r q × (n ≡ behind_record c s lines q)) new
    → TookRegion y c (FollowsIn c s lines r) new) [
      | true ↦ λ took. (took.0, inr took.1, took.2)
      | false ↦ λ none n follows. not_record c s lines r n other (none n) follows
    ]

pub returns-then-is_void : goal.returns-then-is_void
returns-then-is_void c =
    let r = c.args.r.now in
    let lines = c.lines_in-lines.ensures.value in
    let is = c.is_void.ensures.0 c.if-is_void.true in
    let size = c.requires.size in
    let some = c.requires.some in
    let small = c.lines_in-lines.ensures.fits in
    IfOk-weaker c.take_void.result _ _ (λ yes took k s terms h.
    subst (λ (n : ℕ). TookRegion yes k (FollowsIn k s n r) c.take_void.new.at) lines
    (of_void yes k s c.lines_in-lines.result r _ (omega arith) small is
    (let line = h.line in let all = terms.lines in let within = c.requires.can.within in omega arith) (took k s h)))
    c.take_void.ensures

pub returns : goal.returns
returns c =
    let r = c.args.r.now in
    let lines = c.lines_in-lines.ensures.value in
    let no = λ (is : r ≡ void_words c.lines_in-lines.result). absurd (cc (c.is_void.ensures.1 is, c.if-is_void.false)) in
    IfOk-weaker c.take_record.result _ _ (λ yes took k s terms h.
    subst (λ (n : ℕ). TookRegion yes k (FollowsIn k s n r) c.take_record.new.at) lines
    (of_record yes k s c.lines_in-lines.result r _ no (took k s terms h)))
    c.take_record.ensures
