-- The control pass from block to block.
use Rattle.std.proofs.Common.{◌≡◌, ℕ, ◌+◌, ◌^◌, ◌<◌, ◌≤◌, List, length, map, refl}
use Rattle.std.proofs.Common.{sym, ap, ◌∙◌, subst, inl, ⊎_elim, true, arith}
use Rattle.std.proofs.Math.Decide.{dec_lt}
use Rattle.std.proofs.Common.{All, None, Option, Some, Result, Ok, Err, slice_get}
use Rattle.std.specs.Prelude.{IfErr}
use Rattle.std.specs.Result.{IsErrAnd}
use Rattle.fish_catalog.specs.Clamps.{clamped}
use Rattle.fish_catalog.specs.declared.commit.Commit.{Commit}
use Rattle.fish_catalog.specs.declared.entry.Entry.{Entry}
use Rattle.fish_catalog.specs.declared.row.CatRow.{CatRow}
use Rattle.fish_disk.specs.declared.disk.Disk.{Ghosts as Disks}
use Rattle.fish_flush.specs.Carrying.{HasSettled, ReadsLog}
use Rattle.fish_flush.specs.Rows.{HoldsRows}
use Rattle.fish_lanes.proofs.Committing.{reads_control}
use Rattle.fish_lanes.proofs.Versions.{same_version}
use Rattle.fish_lanes.specs.Blocks.{HasRegistered}
use Rattle.fish_lanes.specs.Controlling.{CanControl}
use Rattle.fish_lanes.specs.Ending.{EndsAlone}
use Rattle.fish_lanes.specs.Registering.{registry_of, waiting_id}
use Rattle.fish_lanes.specs.declared.block.BlockEnd.{BlockEnd}
use Rattle.fish_lanes.specs.declared.lane.Lane.{Lane}
use Rattle.fish_recover.specs.Stores.{IsOpened}
use Rattle.fish_recover.specs.declared.opened.Opened.{Opened}
use Rattle.fish_registry.specs.Knowing.{Awaits, HasBegunBy, Knows}
use Rattle.fish_registry.specs.declared.registrar.Registrar.{Registrar}
use Rattle.fish_registry.specs.declared.registrar.Waiting.{Waiting}
use Rattle.fish_rule.proofs.laws.ChainFacts.{always_later}
use Rattle.fish_rule.proofs.laws.Learning.{learns_self}
use Rattle.fish_rule.specs.LoadSteps.{IsAlone}
use Rattle.fish_rule.specs.Parts.{RestsAt}
use Rattle.fish_rule.specs.Passes.{IsPassOf, view}
use Rattle.fish_rule.specs.Start.{table_lines}
use Rattle.fish_rule.specs.Table.{IsOfMoment, first_view}
use Rattle.fish_rule.specs.Views.{Among}
use Rattle.fish_rule.specs.World.{high, low}
use Rattle.fish_rule.specs.declared.table.Log.{Log}
use Rattle.fish_rule.specs.declared.table.Shape.{Shape}
use Rattle.fish_rule.specs.declared.view.Key.{Key}
use Rattle.fish_rule.specs.declared.view.View.{View}
use Rattle.fish_run.specs.Blocks.{begun_anew, first_registry}
use Rattle.fish_run.specs.within.Runs.{CanClose, CanGoOn, IsNewStore, IsTable}
use Rattle.fish_run.specs.within.Steps.{AreWholeLanes}
use Rattle.fish_store.specs.Points.{point_at}
use Rattle.fish_store.specs.Rolling.{HasRolled, MayRoll}
use Rattle.fish_store.specs.Sound.{GoesOnHere, MayGoOn, Point}
use Rattle.fish_store.specs.declared.store.Store.{Store}
use Rattle.fish_walk.proofs.Looking.{ends_later}
use Rattle.fish_walk.specs.Looks.{IsTailCount}
use Rattle.fish_walk.specs.Settling.{EndsAt}
use Rattle.fish_rule.specs.Logs.{KnowsMark}
use Rattle.fish_whole.specs.Whole.{Later}
use Rattle.fish_lanes.proofs.Beginning.{begun_all, between_first, between_opened, knows_opened}
use Rattle.fish_lanes.proofs.Between.{between_after, first_of}
use Rattle.fish_lanes.specs.Between.{IsBetweenBlocks}
use Rattle.fish_lanes.specs.Leaving.{LeavesStore}
use Rattle.fish_rule.specs.declared.table.Pass.{Pass}
use Rattle.fish_store.specs.Opened.{IsOfOpened}

-- ---- before the first block

-- the control pass of a table that was just opened waits for no lane
none_waits : (k : Key) (r : Registrar) → Knows (first_view k) r → r.waiting ≡ None
none_waits k r knows = by r.waiting refl
  where
    by : (w : Option Waiting) → r.waiting ≡ w → w ≡ None
    by None is = refl
    by (Some w) is =
        let waits = subst (λ (z : Option Waiting). Awaits (first_view k) z) is knows.awaits in
        absurd (let bad : None ≡ Some waits.round = waits.waits in cc)

-- the store of what was opened may go on where its table begins
pub new_store : {D : Type 0} (disks : Disks D) (disk : D) (c : Commit) (log : List Entry) (o : Opened)
    → IsOpened (disks.content disk) (disks.images disk) c log o → (s : Store) → IsOfOpened o s → IsNewStore disks.images disk s
new_store disks disk c log o h s m = record {
  go = record {
    between = between_opened disks disk c log o h s m;
    settled = none_waits o.log.key s.registrar (knows_opened disks disk c log o h s m);
    table = subst IsTable (sym m.log) (record {
      buckets = h.buckets ∙ ap (λ (n : ℕ). 2 ^ n) h.carries.bits;
      end = h.end ∙ (λ i. sym h.line i + table_lines (h.carries.pages i) (sym h.number i) (sym h.line i));
    });
  };
  version = ap (λ (z : Pass). (view z).learned.version) m.pass ∙ ap (λ (z : View). z.learned.version) h.first ∙ h.version;
  unshut = ap (λ (z : Pass). (view z).shut) m.pass ∙ ap (λ (z : View). z.shut) h.first;
}

-- its registry is that of its rows
pub new_registry : {D : Type 0} (images : D → List ℕ → Type 0) (disk : D) (s : Store) → IsNewStore images disk s
    → registry_of (view s.pass) s.registrar ≡ first_registry s.registrar.catalog
new_registry images disk s new i =
    record { rows = s.registrar.catalog; waiting = waiting_id (new.go.settled i); version = new.version i }

-- ---- the last checkpoint

-- what a registrar keeps is what a commit asks of the rows
pub holds_rows : (v : View) (r : Registrar) → Knows v r → HoldsRows v r.catalog
holds_rows v r k = record {
  control = k.control;
  listed = k.listed;
  from = λ id row at. (k.bounds id row at).from;
  to = λ id row at. (k.bounds id row at).to;
}

-- a pass that only read is later
pub later_reads : (v u : View) → ReadsLog v u → Later v u
later_reads v u h = record {
  learns = h.learns;
  gained = λ o m. inl (subst (Among o) (ap (λ (z : View). z.own) h.frame) m);
}

pub alone_reads : (v u : View) → ReadsLog v u → IsAlone v → IsAlone u
alone_reads v u h a = record {
  control = ap (λ (z : View). z.lane) h.frame ∙ a.control;
  all = ap (λ (z : View). z.out) h.frame ∙ a.all;
  idle = ap (λ (z : View). z.flight) h.frame ∙ a.idle;
}

-- a pass that is alone and has the tail at a count knows no higher one
count_most : (u : View) (count x : ℕ) → IsOfMoment u → IsAlone u → u.tail ≡ Some (record { number = high x; line = low x }) → high x ≡ count
    → u.learned.count ≤ count
count_most u count x s a tail is =
    let rests : RestsAt s.moment.count s.moment.line (Some (record { number = high x; line = low x })) =
    subst (RestsAt s.moment.count s.moment.line) tail (s.rule.tails s.seat u s.at a.control a.all) in
    let same : high x ≡ s.moment.count = rests.0 in
    let counted : u.learned.count ≤ s.moment.count = (s.rule.facts s.seat u s.at).counted in
    omega arith

-- so the log ends where it did
pub end_reads : (v u : View) (to : ℕ) → ReadsLog v u → IsOfMoment u → EndsAlone v to → EndsAlone u to
end_reads v u to h s e =
    let alone = alone_reads v u h e.alone in
    let t = h.tail e.alone e.count (e.tail.0, e.tail.1, e.tail.2) in
    let below = count_most u e.count t.0 s alone t.1 t.2 in
    let more = h.learns.count in
    let counted = e.counted in
    record {
      alone = alone;
      outside = ap (λ (z : View). z.epoch) h.frame ∙ e.outside;
      above = subst (λ (k : Key). k.number ≤ to) (sym h.learns.about) e.above;
      settled = (let a = e.settled in let b = h.learns.settled in omega arith);
      count = e.count;
      counted = omega arith;
      tail = (t.0, t.1, t.2, (let same : u.learned.count ≡ e.count = omega arith in same));
      ends = ends_later v u to e.count h.learns e.ends;
      marks = λ c is. always_later v u _ h.learns (e.marks c (sym (ap (λ (z : View). z.shut) h.frame) ∙ is));
    }

-- and at the number up to which it was committed
pub end_settled : (v u : View) (n from : ℕ) → ReadsLog v u → IsOfMoment u → EndsAlone v from → HasSettled v u n → EndsAlone u n
unfolding end_reads
end_settled v u n from h s e settled =
    let f = end_reads v u from h s e in
    let t = e.tail in
    let rests : high t.0 ≡ settled.count = subst (IsTailCount settled.count) t.1 (settled.rests e.alone) in
    let same : settled.count ≡ e.count = sym rests ∙ t.2 in
    record {
      alone = f.alone;
      outside = f.outside;
      above = (let a = f.above in let b = e.settled in let c = settled.rises in omega arith);
      settled = settled.settled;
      count = e.count;
      counted = f.counted;
      tail = f.tail;
      ends = subst (EndsAt u n) same (settled.ends e.alone);
      marks = f.marks;
    }

-- the log has one end
not_less : (v : View) (a b : ℕ) → IsOfMoment v → EndsAlone v a → EndsAlone v b → a < b → ⊥
not_less v a b s h k less =
    let r = s.rule in
    let floor : v.learned.settled ≤ s.moment.settled = r.floors s.seat v s.at in
    let within = r.settling.within in
    let settled = k.settled in
    let above = h.above in
    let t = h.tail in
    let rests : RestsAt s.moment.count s.moment.line (Some (record { number = high t.0; line = low t.0 }))
    = subst (RestsAt s.moment.count s.moment.line) t.1 (r.tails s.seat v s.at h.alone.control h.alone.all) in
    let here : high t.0 ≡ s.moment.count = rests.0 in
    let count : high t.0 ≡ h.count = t.2 in
    ⊎_elim (λ (e : a ≡ h.count). (let bad : ⊥ = omega arith in bad))
    (λ (m : (a < h.count) × KnowsMark v a).
    (r.settling.below a (let same : v.about.number ≤ a = above in omega arith) (omega arith)).unmarked
    (m.1 v (learns_self v) s.moment r s.seat s.at)) h.ends

pub one_end : (v : View) (a b : ℕ) → IsOfMoment v → EndsAlone v a → EndsAlone v b → a ≡ b
one_end v a b s h k = by (dec_lt a b) (dec_lt b a)
  where
    by : Dec (a < b) → Dec (b < a) → a ≡ b
    by (yes less) d = absurd (not_less v a b s h k less)
    by (no one) (yes less) = absurd (not_less v b a s k h less)
    by (no one) (no other) = omega arith

-- ---- a new table

module _
    {D : Type 0} (disks : Disks D)
    (disk : D) (s t : Store) (h : HasRolled disks disk s t) where
  rolled_knows : Knows (first_view t.log.key) t.registrar
  rolled_knows = h.knows t.log.key h.rows
      (subst (λ (l : List CatRow). All (HasBegunBy t.log.key.number) l) (sym h.catalog)
      (subst (λ (n : ℕ). All (HasBegunBy n) (map (clamped s.file.flusher.count) s.registrar.catalog)) (sym h.number)
      (begun_all s.file.flusher.count s.registrar.catalog)))

  -- the store may go on where the new table begins
  pub rolled_go : (from : ℕ) → s.file.flusher.count ≡ from → CanGoOn disks.images disk t from
  rolled_go from same = record {
    between = subst (IsBetweenBlocks disks.images disk t) (h.number ∙ same)
        (between_first t h.pass h.first disks.images disk h.rows rolled_knows h.commit h.below);
    settled = none_waits t.log.key t.registrar rolled_knows;
    table = record {
      buckets = h.buckets ∙ ap (λ (z : Shape). 2 ^ z.bucket_bits) (sym h.shape);
      end = h.end ∙ (λ i. sym h.line i + table_lines (sym h.shape i).pages (sym h.number i) (sym h.line i));
    };
  }

  -- with the registry of before, but for indices that begin or end past the log
  pub rolled_registry : (from : ℕ) → s.file.flusher.count ≡ from → s.registrar.waiting ≡ None
      → registry_of (view t.pass) t.registrar ≡ begun_anew true from (registry_of (view s.pass) s.registrar)
  rolled_registry from same settled i = record {
    rows = (h.catalog ∙ ap (λ (n : ℕ). map (clamped n) s.registrar.catalog) same) i;
    waiting = ap waiting_id (none_waits t.log.key t.registrar rolled_knows ∙ sym settled) i;
    version = (ap (λ (z : View). z.learned.version) h.first ∙ h.version) i;
  }

-- what a commit leaves is what another table may take the place of
pub may_roll : {D : Type 0} (images : D → List ℕ → Type 0) (disk : D) (s m : Store) (from : ℕ) → CanControl s.log s.pass s.registrar
    → m.log ≡ s.log → m.registrar ≡ s.registrar → CanClose m → ReadsLog (view s.pass) (view m.pass) → MayGoOn images (point_at disk m)
    → EndsAlone (view m.pass) m.file.flusher.count → MayRoll images disk m
may_roll images disk s m from can log registrar close reads commit ends = record {
  pass = close.of;
  alone = close.alone;
  rows = holds_rows (view m.pass) m.registrar
      (subst (Knows (view m.pass)) (sym registrar)
      (reads_control s.log s.pass m.pass s.registrar can (subst (λ (l : Log). IsPassOf l m.pass) log close.of) reads).knows);
  commit = commit;
  count = ends.count;
  tail = ends.tail;
  ends = ends.ends;
}

-- the registry is the one of before
pub registry_reads : (s m : Store) → m.registrar ≡ s.registrar → IsOfMoment (view s.pass) → IsOfMoment (view m.pass) → IsAlone (view s.pass)
    → ReadsLog (view s.pass) (view m.pass) → registry_of (view m.pass) m.registrar ≡ registry_of (view s.pass) s.registrar
registry_reads s m same before now alone reads i =
    let version = same_version (view s.pass) (view m.pass) before now alone.control (ap (λ (z : View). z.lane) reads.frame ∙ alone.control)
    reads.learns.about (ap (λ (z : View). z.rows) reads.frame) in
    record { rows = (same i).catalog; waiting = waiting_id (same i).waiting; version = version i }

-- ---- moments

-- where nothing was done the store is where it was
pub here_self : {D : Type 0} (disks : Disks D) (p : Point D) → GoesOnHere disks p p
here_self disks p = record {
  learns = learns_self p.view;
  told_before = λ told. told;
  rises = omega arith;
  sound = λ past s told. s;
  crash = λ past s told. record { later = omega arith; now = λ c here. s.now c here; before = λ t c early left. inl left };
}

-- the control pass may close the log where it may go on
pub close_of : {D : Type 0} (images : D → List ℕ → Type 0) (disk : D) (s : Store) (from : ℕ) → CanGoOn images disk s from → CanClose s
close_of images disk s from go = record { of = go.between.can.of; alone = go.between.end.alone; table = go.table }

-- a table stays the one that it is
pub table_same : (s t : Store) → t.log ≡ s.log → IsTable s.log → IsTable t.log
table_same s t same h = subst IsTable (sym same) h

-- ---- after a block

-- no lane had a fault, so the definitions that the first one's items say are known, and a checkpoint may follow
pub go_whole : {D : Type 0} (disks : Disks D) (disk : D) (s : Store) (disk' : D) (t : Store) (lanes : List Lane) (end : BlockEnd)
    → AreWholeLanes lanes → LeavesStore disks disk s disk' t lanes end
    → ((x : Lane) → slice_get lanes 0 ≡ Some x → HasRegistered (view s.pass) (view t.pass) s.registrar t.registrar x end)
    → 0 < length lanes → IsTable t.log → CanGoOn disks.images disk' t end.to
go_whole disks disk s disk' t lanes end whole leaves has some table =
    let first = first_of lanes some in
    record {
      between = between_after disks disk s disk' t lanes end leaves has first.0 first.1 (whole 0 first.0 first.1);
      settled = (has first.0 first.1).settled;
      table = table;
    }

-- ---- results

-- an answer is no error
pub no_err : {A E : Type 0} (r : Result A E) (x : A) (e : E) → r ≡ Ok x → r ≡ Err e → ⊥
no_err r x e a b = (let bad : Ok x ≡ Err e = sym a ∙ b in cc)

-- an error that is known
pub err_known : {T E : Type 0} (r : Result T E) (P : E → Type 0) (x : E) → IsErrAnd r (λ e. e ≡ x) → P x → IfErr r P
err_known (Ok y) P x is p = tt
err_known (Err e) P x is p = subst P (sym is) p
