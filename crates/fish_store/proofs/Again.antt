-- A checkpoint may follow a checkpoint.
use Rattle.std.proofs.Common.{◌≡◌, ℕ, List, [], ◌∷◌, ◌++◌, inl, refl, sym, subst}
use Rattle.std.specs.Prelude.{IfOk, Result, Ok, Err}
use Rattle.fish_catalog.specs.declared.commit.Commit.{Commit}
use Rattle.fish_catalog.specs.declared.entry.Entry.{Entry}
use Rattle.fish_catalog.specs.declared.row.CatRow.{CatRow}
use Rattle.fish_flush.proofs.Resting.{rest_stands}
use Rattle.fish_flush.specs.Carrying.{CarriesLog, HasCommitted}
use Rattle.fish_flush.specs.Kept.{commit_of}
use Rattle.fish_flush.specs.declared.flusher.Flusher.{Flusher}
use Rattle.fish_rule.specs.declared.table.Shape.{Shape}
use Rattle.fish_rule.specs.declared.view.View.{View}
use Rattle.fish_store.specs.CommitRows.{HasRowsOf}
use Rattle.fish_store.specs.Ending.{IsCommitOf}
use Rattle.fish_store.specs.Sound.{MayCommit, Point}

-- where one is done, another may follow
pub may_again : {D : Type 0} (images : D → List ℕ → Type 0) (p q : Point D) (n : ℕ) → q.shape ≡ p.shape → q.rows ≡ p.rows
    → MayCommit images p
    → HasCommitted (images p.disk) (images q.disk) p.flusher q.flusher p.view q.view p.shape p.rows n → MayCommit images q
may_again images p q n shape rows may done =
    let d = done.carries may.0 may.1 may.2 in
    let next : Commit = commit_of q.flusher p.shape p.rows in
    let log : List Entry = may.1 ++ d.0 in (
      next,
      log,
      subst (λ (z : List CatRow). CarriesLog (images q.disk) q.flusher q.view q.shape z next log) (sym rows)
          (subst (λ (z : Shape). CarriesLog (images q.disk) q.flusher q.view z p.rows next log) (sym shape) d.2),
    )

-- the flusher then counts what was answered, which the pass has counted, and every image has these rows and this shape
pub commit_ok : {E : Type 0} (images : List ℕ → Type 0) (images' : List ℕ → Type 0) (f g : Flusher) (v u : View) (s : Shape)
    (rows : List CatRow) (c : Commit) (log : List Entry) → CarriesLog images f v s rows c log
    → (r : Result ℕ E) → IfOk r (HasCommitted images images' f g v u s rows) → IfOk r (IsCommitOf images' s rows g u)
commit_ok images images' f g v u s rows c log may (Ok n) done =
    let d = done.carries c log may in record {
      count = done.count;
      counted = done.counted;
      line = d.2.line;
      definitions = λ i there. record {
        commit = commit_of g s rows;
        log = log ++ d.0;
        stands = rest_stands images' g (commit_of g s rows) (log ++ d.0) d.2.rest i there;
        rows_are = refl;
        lines_are = refl;
        pages = refl;
        bits = refl;
      };
    }
commit_ok images images' f g v u s rows c log may (Err e) done = tt

-- so every image has these rows
pub rows_ok : {E : Type 0} (images : List ℕ → Type 0) (s : Shape) (rows : List CatRow) (g : Flusher) (u : View) (r : Result ℕ E)
    → IfOk r (IsCommitOf images s rows g u) → IfOk r (λ n. (i : List ℕ) → images i → HasRowsOf (rows ∷ []) i)
rows_ok images s rows g u (Ok n) done = λ i here.
    let k = done.definitions i here in
    record { commit = k.commit; log = k.log; stands = k.stands; among = inl (sym k.rows_are) }
rows_ok images s rows g u (Err e) done = tt
