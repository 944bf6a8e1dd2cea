-- How moments of a store go on.
use Rattle.std.proofs.Common.{◌≡◌, ℕ, ◌≤◌, arith, List, Option, Some, None, false, ap, subst, sym, ⊎_elim, ◌∙◌}
use Rattle.std.specs.Prelude.{IfSome, IsSome}
use Rattle.std.proofs.lemmas.Option.{same_Some}
use Rattle.fish_catalog.specs.declared.commit.Commit.{Commit}
use Rattle.fish_catalog.specs.declared.entry.Entry.{Entry}
use Rattle.fish_catalog.specs.declared.row.CatRow.{CatRow}
use Rattle.fish_cold.specs.Carries.{CarriesTable, IsPrior}
use Rattle.fish_cold.specs.declared.cold.Cold.{Cold}
use Rattle.fish_disk.proofs.Moments.{leaves_more, leaves_then}
use Rattle.fish_disk.specs.Content.{StillReads}
use Rattle.fish_disk.specs.declared.disk.Disk.{Ghosts as Disks}
use Rattle.fish_flush.proofs.Lasting.{carries_on}
use Rattle.fish_flush.specs.Carrying.{CarriesLog}
use Rattle.fish_flush.specs.declared.flusher.Flusher.{Flusher}
use Rattle.fish_image.specs.Reached.{Reached}
use Rattle.fish_rule.proofs.laws.Learning.{learns_both}
use Rattle.fish_rule.specs.declared.table.Shape.{Shape}
use Rattle.fish_rule.specs.declared.view.Key.{Key}
use Rattle.fish_rule.specs.declared.view.View.{View}
use Rattle.fish_store.proofs.Kept.{one_prior}
use Rattle.fish_store.specs.Sound.{GoesOnHere, HasPast, IsImageOf, IsSoundBehind, MayGoOn, Point, Reaches, Rests, StoreRuns, Sound}
use Rattle.fish_store.specs.Sound.{StoreStays}
use Rattle.fish_whole.proofs.Parts.{fits_later, goes_both, known_later}
use Rattle.fish_whole.specs.Whole.{IsKnown, Whole}

-- an image stays one of a part of the log
pub image_on : (past : Whole) (v : View) (next : Whole) (u : View) (least less : ℕ) (c : List ℕ)
    → ((log : List Entry) → IsKnown past v log → IsKnown next u log) → less ≤ least → IsImageOf past v least c
    → IsImageOf next u less c
image_on past v next u least less c known le h = record {
  commit = h.commit;
  log = h.log;
  stands = h.stands;
  many = (let a = h.many in omega arith);
  known = known h.log h.known;
}

module _
    {D : Type 0} (disks : Disks D) where
  abbrev pub Goes : Point D → Point D → (Whole → Type 0) → Type 0
  Goes p q tells = StoreRuns disks p q tells

  abbrev pub Comes : Whole → Point D → Point D → (Whole → Type 0) → Type 0
  Comes past p q tells = Reaches disks past p q tells

  -- one and then the other
  pub runs_both : (p m q : Point D) (P Q R : Whole → Type 0) → ((w : Whole) → P w → Q w → R w) → Goes p m P → Goes m q Q → Goes p q R
  runs_both p m q P Q R told h t = record {
    told_before = λ still. h.told_before (t.told_before still);
    rises = (let a = h.rises in let b = t.rises in omega arith);
    reaches = λ past sound still.
        let a = h.reaches past sound (t.told_before still) in
        let b = t.reaches a.next a.sound still in
        let up = h.rises in
        record {
          next = b.next;
          goes = goes_both past p.view a.next m.view b.next q.view a.goes b.goes;
          told = λ w may. told w (a.told w (b.goes.narrows w may)) (b.told w may);
          sound = b.sound;
          crash = leaves_then disks.images disks.since disks.moment p.disk m.disk q.disk (IsImageOf b.next q.view p.flusher.count)
              (leaves_more disks.images disks.since disks.moment p.disk m.disk (IsImageOf a.next m.view p.flusher.count)
              (IsImageOf b.next q.view p.flusher.count)
              (λ c. image_on a.next m.view b.next q.view p.flusher.count p.flusher.count c b.goes.known (omega arith)) a.crash)
              (leaves_more disks.images disks.since disks.moment m.disk q.disk (IsImageOf b.next q.view m.flusher.count)
              (IsImageOf b.next q.view p.flusher.count)
              (λ c. image_on b.next q.view b.next q.view m.flusher.count p.flusher.count c (λ log k. k) up) b.crash);
        };
  }

  -- of one table, one and then the other
  pub here_both : (p m q : Point D) → GoesOnHere disks p m → GoesOnHere disks m q
      → GoesOnHere disks p q
  here_both p m q h t = record {
    learns = learns_both p.view m.view q.view h.learns t.learns;
    told_before = λ still. h.told_before (t.told_before still);
    rises = (let a = h.rises in let b = t.rises in omega arith);
    sound = λ past s still. t.sound past (h.sound past s (t.told_before still)) still;
    crash = λ past s still.
        let before = t.told_before still in
        let up = h.rises in
        leaves_then disks.images disks.since disks.moment p.disk m.disk q.disk (IsImageOf past q.view p.flusher.count)
        (leaves_more disks.images disks.since disks.moment p.disk m.disk (IsImageOf past m.view p.flusher.count) (IsImageOf past q.view
        p.flusher.count)
        (λ c. image_on past m.view past q.view p.flusher.count p.flusher.count c
        (λ log k. known_later past m.view q.view log t.learns k) (omega arith)) (h.crash past s before))
        (leaves_more disks.images disks.since disks.moment m.disk q.disk (IsImageOf past q.view m.flusher.count) (IsImageOf past q.view
        p.flusher.count)
        (λ c. image_on past q.view past q.view m.flusher.count p.flusher.count c (λ log k. k) up)
        (t.crash past (h.sound past s before) still));
  }

  -- a moment that goes on in one table stays sound after its past, as far as the disk's content is told
  pub behind_on : (p q : Point D) (later : Option (List ℕ)) (past : Whole) → GoesOnHere disks p q
      → IsSoundBehind disks p later past → (IsSome later → IsSome (disks.content q.disk)) → IsSoundBehind disks q later past
  behind_on p q later past h s told = record { sound = h.sound past s.sound (told s.told); told = s.told }

  -- what a crash since some moment may have left, up to a later moment
  pub since_on : (past : Whole) (p q : Point D) (t least : ℕ) (Q : Whole → Type 0) → least ≤ p.flusher.count
      → t ≤ disks.moment p.disk → (a : Comes past p q Q) → ((c : List ℕ) → disks.since p.disk t c → IsImageOf past p.view least c)
      → (c : List ℕ) → disks.since q.disk t c → IsImageOf a.next q.view least c
  since_on past p q t least Q less early a h c left = ⊎_elim
      (λ (was : disks.since p.disk t c). image_on past p.view a.next q.view least least c a.goes.known (omega arith) (h c was))
      (λ (has : IsImageOf a.next q.view p.flusher.count c).
      image_on a.next q.view a.next q.view p.flusher.count least c (λ log k. k) less has)
      (a.crash.before t c early left)

-- ---- steps that leave the last commit

-- fewer images stand for the log too
fewer_carry : (images fewer : List ℕ → Type 0) (f : Flusher) (v : View) (s : Shape) (rows : List CatRow) (c : Commit) (log : List Entry)
    → ((i : List ℕ) → fewer i → images i) → CarriesLog images f v s rows c log → CarriesLog fewer f v s rows c log
fewer_carry images fewer f v s rows c log less h = record {
  rest = record {
    slot_is = h.rest.slot_is;
    body = h.rest.body;
    lines = h.rest.lines;
    rests = λ i here. h.rest.rests i (less i here);
    long = λ i here. h.rest.long i (less i here);
    committed = h.rest.committed;
  };
  pages = h.pages;
  bits = h.bits;
  grown = h.grown;
  from = h.from;
  settled = h.settled;
  line = h.line;
  told = h.told;
}

-- what is still read was told before
pub told_still : (old new : Option (List ℕ)) → StillReads old new → IsSome new → IsSome old
told_still old None still some = absurd cc
told_still old (Some c) still some = subst (λ (o : Option (List ℕ)). IsSome o) (sym still) some

-- a table that the same content carries has the same prior part
same_table : (old new : Option (List ℕ)) (k : Key) (cold later : Cold) (h : CarriesTable old k cold) (t : CarriesTable new k later)
    → StillReads old new → t.end ≡ h.end
same_table old None k cold later h t still = absurd (let is = t.is in cc)
same_table old (Some c) k cold later h t still =
    let one : h.image ≡ c = same_Some h.image c (sym h.is ∙ still) in
    let other : c ≡ t.image = same_Some c t.image t.is in
    one_prior t.image k.number t.end h.end t.prior (subst (λ (i : List ℕ). IsPrior i k.number h.end) (one ∙ other) h.prior)

-- the table that is carried on
pub on_table : (old new : Option (List ℕ)) (k : Key) (cold later : Cold) (h : CarriesTable old k cold) → StillReads old new → IsSome new
    → IfSome new (λ c. CarriesTable new k later) → (t : CarriesTable new k later) × (t.end ≡ h.end)
on_table old None k cold later h still some table = absurd cc
on_table old (Some c) k cold later h still some table = (table, same_table old (Some c) k cold later h table still)

module _
    {D : Type 0} (disks : Disks D)
    (p q : Point D) (h : StoreStays disks p q) where
  -- an image of the last commit's log stays one
  image_stays : (past : Whole) → Sound disks p past → (c : List ℕ) → disks.images p.disk c
      → IsImageOf past q.view p.flusher.count c
  image_stays past s c here =
      image_on past p.view past q.view p.flusher.count p.flusher.count c (λ log k. known_later past p.view q.view log h.learns k)
      (omega arith) (s.now c here)

  -- every image stands for the last commit's log
  rests_stay : (past : Whole) → Sound disks p past → q.flusher.shut ≡ false → Rests disks.images q past
  rests_stay past s live =
      let r = s.rests (sym (ap (λ (f : Flusher). f.shut) h.flusher) ∙ live) in
      let count = ap (λ (f : Flusher). f.count) h.flusher in
      let counted = r.counted in
      let more = h.learns.count in
      let grown = h.rows_on r.commit.count r.commit.rows (let same = r.carries.rest.committed.count in omega arith) r.carries.grown in
      record {
        commit = r.commit;
        log = r.log;
        carries = subst (λ (f : Flusher). CarriesLog (disks.images q.disk) f q.view q.shape q.rows r.commit r.log) (sym h.flusher)
            (subst (λ (s : Shape). CarriesLog (disks.images q.disk) p.flusher q.view s q.rows r.commit r.log) (sym h.shape)
            (carries_on (disks.images q.disk) p.flusher p.view q.view p.shape p.rows q.rows r.commit r.log
            (fewer_carry (disks.images p.disk) (disks.images q.disk) p.flusher p.view p.shape p.rows r.commit r.log h.crash.now r.carries)
            h.learns grown));
        begins = r.begins;
        counted = omega arith;
      }

  -- the disk has what was there before the table
  past_stays : (past : Whole) → Sound disks p past → IsSome (disks.content q.disk) → HasPast disks.content q past
  past_stays past s still =
      let t = on_table (disks.content p.disk) (disks.content q.disk) p.view.about p.cold q.cold s.has.table h.content_is still
      (h.table s.has.table) in
      let moved : (x : CarriesTable (disks.content q.disk) q.view.about q.cold) × (x.end.entries ≡ past.log) =
      subst (λ (k : Key). (x : CarriesTable (disks.content q.disk) k q.cold) × (x.end.entries ≡ past.log)) (sym h.learns.about)
      (t.0, ap (λ (e : Reached). e.entries) t.1 ∙ s.has.entries) in
      record { table = moved.0; entries = moved.1 }

  -- it is sound still
  sound_stays : (past : Whole) → Sound disks p past → IsSome (disks.content q.disk) → Sound disks q past
  sound_stays past s still = record {
    fits = fits_later past p.view q.view h.learns s.fits;
    has = past_stays past s still;
    rests = rests_stay past s;
    now = λ c here. subst (λ (f : Flusher). IsImageOf past q.view f.count c) (sym h.flusher) (image_stays past s c (h.crash.now c here));
  }

  -- a step that leaves the last commit goes on
  pub here_stays : GoesOnHere disks p q
  here_stays = record {
    learns = h.learns;
    told_before = told_still (disks.content p.disk) (disks.content q.disk) h.content_is;
    rises = (let count = ap (λ (f : Flusher). f.count) h.flusher in omega arith);
    sound = sound_stays;
    crash = λ past s still. leaves_more disks.images disks.since disks.moment p.disk q.disk (disks.images p.disk) (IsImageOf past q.view
        p.flusher.count)
        (image_stays past s) h.crash;
  }

  -- and a checkpoint may follow it as it might before
  pub may_stays : MayGoOn disks.images p → MayGoOn disks.images q
  may_stays m =
      let c = m.may.0 in
      let log = m.may.1 in
      let carries = m.may.2 in
      let count = ap (λ (f : Flusher). f.count) h.flusher in
      let counted = m.counted in
      let more = h.learns.count in
      let grown = h.rows_on c.count c.rows (let same = carries.rest.committed.count in omega arith) carries.grown in
      record {
        live = ap (λ (f : Flusher). f.shut) h.flusher ∙ m.live;
        may = (
          c,
          log,
          subst (λ (f : Flusher). CarriesLog (disks.images q.disk) f q.view q.shape q.rows c log) (sym h.flusher)
              (subst (λ (s : Shape). CarriesLog (disks.images q.disk) p.flusher q.view s q.rows c log) (sym h.shape)
              (carries_on (disks.images q.disk) p.flusher p.view q.view p.shape p.rows q.rows c log
              (fewer_carry (disks.images p.disk) (disks.images q.disk) p.flusher p.view p.shape p.rows c log h.crash.now carries)
              h.learns grown)),
        );
        counted = omega arith;
      }
