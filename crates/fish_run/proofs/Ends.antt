-- Where a run ends: what was written of the blocks that ran, and of the log's end.
use Rattle.std.proofs.Common.{◌≡◌, ℕ, ◌+◌, ◌<◌, ◌≤◌, List, [], ◌∷◌, ◌++◌, length, take, get_or, append-nil, append_assoc}
use Rattle.std.proofs.Common.{refl, sym, ap, ◌∙◌, subst, ⊎_elim, arith, Bool, true, false}
use Rattle.std.proofs.Common.{Option, Some, None, slice_get}
use Rattle.std.specs.List.{flat_map}
use Rattle.std.specs.Prelude.{◌||◌, IsSome}
use Rattle.std.proofs.lemmas.Grind.{flat_map-append}
use Rattle.std.proofs.lemmas.List.{take_all, take_more}
use Rattle.std.proofs.lemmas.List.Folds.{list_any-append}
use Rattle.fish_catalog.specs.declared.row.CatRow.{CatRow}
use Rattle.fish_disk.specs.declared.disk.Disk.{Ghosts as Disks}
use Rattle.fish_script.specs.Laws.{Pairs}
use Rattle.fish_lanes.specs.Ending.{EndsAlone}
use Rattle.fish_lanes.specs.Registering.{Registry}
use Rattle.fish_outside.specs.Content.{Files, Gained, GainedPart, SameFiles}
use Rattle.fish_report.specs.ReportText.{report_text}
use Rattle.fish_report.specs.declared.item.Item.{Item}
use Rattle.fish_rule.specs.Logs.{Learns}
use Rattle.fish_feed.proofs.Lists.{get_at, pairs_length, pairs_map, pairs_push, take_length}
use Rattle.fish_run.proofs.Faults.{write_loud}
use Rattle.fish_run.proofs.Tables.{follow_old, renewed_join, renewed_may, rounds_old}
use Rattle.fish_run.proofs.Turns.{behind_next, cut_join, first_on, rounds_both, rounds_first}
use Rattle.fish_run.proofs.Works.{done_later}
use Rattle.fish_run.proofs.Written.{gained_none, part_then, part_whole, written_both}
use Rattle.fish_run.specs.Blocks.{Block, Round, rounds_of, with_cut}
use Rattle.fish_run.specs.Ran.{AreFirst, AreNextOf, IsBlockOf}
use Rattle.fish_run.specs.Reports.{are_refused, block_items, report_of, said_refused}
use Rattle.fish_run.specs.Joins.{block_said}
use Rattle.fish_run.specs.Rounds.{AreRounds, given_in}
use Rattle.fish_run.specs.within.Faults.{IsWriteFault}
use Rattle.fish_run.specs.within.Running.{HowStopped}
use Rattle.fish_run.specs.within.Steps.{HasRounds, HasRunRounds, RunsAll, RunsSome, StopsRounds, WritesBlocks}
use Rattle.fish_run.specs.Tables.{AreRenewed, is_next_new}
use Rattle.fish_run.specs.declared.fault.RunFault.TheVariants as fault
use Rattle.fish_run.specs.declared.lasting.Stopped.{Stopped}
use Rattle.fish_script.specs.declared.script.Block as script
use Rattle.fish_store.specs.CommitRows.{LeavesRows}
use Rattle.fish_store.specs.Sound.{Point, StoreRuns}

-- ---- one more block

or_none : (b : Bool) → (b || false) ≡ b
or_none true = refl
or_none false = refl

rounds_push : (blocks : List Block) (b : Block) → rounds_of (blocks ++ b ∷ []) ≡ rounds_of blocks ++ b.rounds
rounds_push [] b = append-nil b.rounds
rounds_push (x ∷ blocks) b = ap (λ (z : List Round). x.rounds ++ z) (rounds_push blocks b)
    ∙ sym (append_assoc x.rounds (rounds_of blocks) b.rounds)

report_more : (begin : Item) (blocks : List Block) (b : Block)
    → report_of begin (blocks ++ b ∷ []) ≡ report_of begin blocks ++ block_items b
report_more begin blocks b = ap (λ (z : List Item). begin ∷ z)
    (flat_map-append block_items blocks (b ∷ []) ∙ ap (λ (z : List Item). flat_map block_items blocks ++ z) (append-nil (block_items b)))

refused_more : (blocks : List Block) (b : Block)
    → are_refused (blocks ++ b ∷ []) ≡ are_refused blocks || said_refused (block_said b.rounds)
refused_more blocks b = list_any-append (λ (x : Block). said_refused (block_said x.rounds)) blocks (b ∷ [])
    ∙ ap (λ z. are_refused blocks || z) (or_none (said_refused (block_said b.rounds)))

block_later : (old new : Option Files) → SameFiles old new → (s : script.Block) (b : Block) → IsBlockOf old s b → IsBlockOf new s b
block_later old new still s b h = record {
  several = h.several;
  follow = h.follow;
  done = done_later old new still s.lanes (given_in b.rounds) h.done;
  all = h.all;
}

blocks_later : (old new : Option Files) → SameFiles old new → (text : List script.Block) (blocks : List Block)
    → Pairs (IsBlockOf old) text blocks → Pairs (IsBlockOf new) text blocks
blocks_later old new still text blocks h =
    pairs_map (IsBlockOf old) (IsBlockOf new) (block_later old new still) text blocks h

-- all blocks of a script are the first ones
pub all_first : (told : Option Files) (text : List script.Block) (blocks : List Block) → Pairs (IsBlockOf told) text blocks
    → AreFirst told text blocks
all_first told text blocks all =
    let many = pairs_length (IsBlockOf told) text blocks all in
    subst (λ (z : List script.Block). Pairs (IsBlockOf told) z blocks) (sym (take_all (length blocks) text (omega (many, arith)))) all

-- the first blocks of a script
module _ (told : Option Files) (text : List script.Block) (i : ℕ) (less : i ≤ length text) where
  many_are : (blocks : List Block) → Pairs (IsBlockOf told) (take i text) blocks → length blocks ≡ i
  many_are blocks are = pairs_length (IsBlockOf told) (take i text) blocks are ∙ take_length i text less

  are_first : (blocks : List Block) → Pairs (IsBlockOf told) (take i text) blocks → AreFirst told text blocks
  are_first blocks are =
      subst (λ (z : ℕ). Pairs (IsBlockOf told) (take z text) blocks) (sym (many_are blocks are)) are

  -- and rounds of the next one
  next_of : (blocks : List Block) → Pairs (IsBlockOf told) (take i text) blocks → (s : script.Block) → slice_get text i ≡ Some s
      → (rounds : List Round) → AreRounds told s.lanes rounds → AreNextOf told text (length blocks) rounds
  next_of blocks are s at [] h = tt
  next_of blocks are s at (a ∷ rounds) h = (s, ap (slice_get text) (many_are blocks are) ∙ at, h)

module _
    {D : Type 0} (disks : Disks D)
    (from : ℕ) (r : Registry) (begin : Item) where
  -- none ran yet, and the first item was written
  pub writes_first : (p : Point D) (told : Option Files) (a b : Option (List ℕ)) (refused : Bool)
      → HasRounds disks p p from r [] false from r → Gained a b (report_text (begin ∷ [])) → refused ≡ false
      → WritesBlocks disks p p from r begin told [] from r a b refused
  writes_first p told a b refused none written accepted =
      record { blocks = []; are = tt; ran = none; renewed = tt; written = written; refused_is = accepted }

  module _ (p m q : Point D) (mid : ℕ) (s : Registry) (old new : Option Files) (still : SameFiles old new) (a b c : Option (List ℕ)) where
    -- one more ran, and was written
    pub writes_more : (text : List script.Block) (x : script.Block) (to : ℕ) (t : Registry) (before now : Bool) (y : Block)
        → WritesBlocks disks p m from r begin old text mid s a b before → IsBlockOf new x y
        → HasRounds disks m q mid s y.rounds false to t → AreRenewed m.view.about.number y.rounds false false
        → Gained b c (report_text (block_items y)) → now ≡ before || said_refused (block_said y.rounds)
        → WritesBlocks disks p q from r begin new (text ++ x ∷ []) to t a c now
    writes_more text x to t before now y h is ran renewed written refused = record {
      blocks = h.blocks ++ y ∷ [];
      are = pairs_push (IsBlockOf new) text h.blocks x y (blocks_later old new still text h.blocks h.are) is;
      ran = subst (λ (z : List Round). HasRounds disks p q from r z false to t) (sym (rounds_push h.blocks y))
          (rounds_both disks p m q from mid to r s t (rounds_of h.blocks) y.rounds h.ran false ran);
      renewed = subst (λ (z : List Round). AreRenewed p.view.about.number z false false) (sym (rounds_push h.blocks y))
          (renewed_join p.view.about.number (rounds_of h.blocks) y.rounds false (follow_old y.rounds is.follow) h.renewed
          (subst (λ (z : ℕ). AreRenewed z y.rounds false false) h.ran.begins renewed));
      written = subst (λ (z : List Item). Gained a c (report_text z)) (sym (report_more begin h.blocks y))
          (written_both a b c (report_of begin h.blocks) (block_items y) h.written written);
      refused_is = refused ∙ ap (λ z. z || said_refused (block_said y.rounds)) h.refused_is ∙ sym (refused_more h.blocks y);
    }

    -- a fault came after them
    stops_after : (disk : D) (es rounds : List Round) (cut : Option Round) (e : Stopped)
        → HasRounds disks p m from r es false mid s
        → StopsRounds disks m disk mid s rounds cut e
        → StopsRounds disks p disk from r (es ++ rounds) cut e
    stops_after disk es rounds cut e h stop = record {
      at = stop.at;
      disk_is = stop.disk_is;
      store = stop.store;
      lost = stop.lost;
      fresh = stop.fresh;
      end = stop.end;
      cut_by = stop.cut_by;
      ran = rounds_first disks p m stop.at from mid stop.end r s s es rounds h stop.fresh cut stop.ran;
      whole = λ past sound.
          let n = behind_next disks p m _ (disks.content disk) h.runs
          (λ told. stop.ran.runs.told_before (subst (λ (z : D). IsSome (disks.content z)) (sym stop.disk_is) told)) past sound in
          stop.whole n.0 n.1;
    }

    -- so the run stopped, in the block after those that were written or after it
    pub stops_more : (text : List script.Block) (i : ℕ) (x : script.Block) (refused now : Bool) (disk : D) (rounds : List Round)
        (cut : Option Round) (e : Stopped) → i < length text → x ≡ get_or text i x
        → WritesBlocks disks p m from r begin old (take i text) mid s a b refused
        → StopsRounds disks m disk mid s rounds cut e
        → AreRenewed m.view.about.number (with_cut rounds cut) true false → HowStopped new x b c refused now rounds cut e
        → RunsSome disks p disk from r begin new text a c now e
    stops_more text i x refused now disk rounds cut e less is h stop renewed how = ⊎_elim not_done was_done how
      where
        blocks : List Block
        blocks = h.blocks

        are : Pairs (IsBlockOf new) (take i text) blocks
        are = blocks_later old new still (take i text) blocks h.are

        at : slice_get text i ≡ Some x
        at = get_at text i x less is

        Goal : Type 0
        Goal = RunsSome disks p disk from r begin new text a c now e

        stopped : StopsRounds disks p disk from r (rounds_of blocks ++ rounds) cut e
        stopped = stops_after disk (rounds_of blocks) rounds cut e h.ran stop

        all_renewed : is_next_new (with_cut rounds cut) false ≡ false
            → AreRenewed p.view.about.number (with_cut (rounds_of blocks ++ rounds) cut) true false
        all_renewed old = subst (λ (z : List Round). AreRenewed p.view.about.number z true false)
            (sym (cut_join (rounds_of blocks) rounds cut))
            (renewed_join p.view.about.number (rounds_of blocks) (with_cut rounds cut) true old h.renewed
            (subst (λ (z : ℕ). AreRenewed z (with_cut rounds cut) true false) h.ran.begins renewed))

        Begun : Type 0
        Begun = AreRounds new x.lanes (with_cut rounds cut) × Gained b c [] × (e.why ≡ fault.Input → cut ≡ None)
            × (now ≡ refused)

        Done : Type 0
        Done = (y : Block) × IsBlockOf new x y × (y.rounds ≡ rounds) × (cut ≡ None) × GainedPart b c (report_text (block_items y))
            × IsWriteFault e.why × (now ≡ refused || said_refused (block_said y.rounds))

        not_done : Begun → Goal
        not_done m = record {
          blocks = blocks;
          part = rounds;
          cut = cut;
          are = are_first new text i (omega (less, arith)) blocks are;
          next = next_of new text i (omega (less, arith)) blocks are x at (with_cut rounds cut) m.0;
          stops = stopped;
          renewed = all_renewed (rounds_old new x.lanes (with_cut rounds cut) m.0);
          written = part_whole a c (report_text (report_of begin blocks))
              (gained_none a b c (report_text (report_of begin blocks)) h.written m.1);
          refused_is = m.3 ∙ h.refused_is;
          exact = λ output memory. gained_none a b c (report_text (report_of begin blocks)) h.written m.1;
          input = m.2;
        }

        was_done : Done → Goal
        was_done m =
            let next : take (i + 1) text ≡ take i text ++ x ∷ []
            = take_more text i x less ∙ ap (λ (z : script.Block). take i text ++ z ∷ []) (sym is) in
            let all : Pairs (IsBlockOf new) (take (i + 1) text) (blocks ++ m.0 ∷ [])
            = subst (λ (z : List script.Block). Pairs (IsBlockOf new) z (blocks ++ m.0 ∷ [])) (sym next)
            (pairs_push (IsBlockOf new) (take i text) blocks x m.0 are m.1) in
            let same : rounds_of blocks ++ rounds ≡ rounds_of (blocks ++ m.0 ∷ []) ++ []
            = ap (λ (z : List Round). rounds_of blocks ++ z) (sym m.2) ∙ sym (rounds_push blocks m.0)
            ∙ sym (append-nil (rounds_of (blocks ++ m.0 ∷ []))) in
            record {
              blocks = blocks ++ m.0 ∷ [];
              part = [];
              cut = None;
              are = are_first new text (i + 1) (omega (less, arith)) (blocks ++ m.0 ∷ []) all;
              next = tt;
              stops = subst (λ (z : List Round). StopsRounds disks p disk from r z None e) same
                  (subst (λ (z : Option Round). StopsRounds disks p disk from r (rounds_of blocks ++ rounds) z e)
                  m.3 stopped);
              renewed = subst (λ (z : List Round). AreRenewed p.view.about.number z true false) same
                  (subst (λ (z : Option Round). AreRenewed p.view.about.number (with_cut (rounds_of blocks ++ rounds) z) true false) m.3
                  (all_renewed (subst (λ (z : Option Round). is_next_new (with_cut rounds z) false ≡ false) (sym m.3)
                  (subst (λ (z : List Round). is_next_new z false ≡ false) m.2 (follow_old m.0.rounds m.1.follow)))));
              written = subst (λ (z : List Item). GainedPart a c (report_text z)) (sym (report_more begin blocks m.0))
                  (part_then a b c (report_of begin blocks) (block_items m.0) h.written m.4);
              refused_is = m.6 ∙ ap (λ z. z || said_refused (block_said m.0.rounds)) h.refused_is ∙ sym (refused_more blocks m.0);
              exact = λ output memory. absurd (write_loud e.why m.5 output memory);
              input = λ k. refl;
            }

  -- ---- all blocks

  -- they were written
  pub runs_all : (p q : Point D) (told : Option Files) (text : List script.Block) (i to : ℕ) (t : Registry) (a b : Option (List ℕ))
      (refused : Bool) → length text ≡ i → EndsAlone q.view to → q.rows ≡ t.rows
      → WritesBlocks disks p q from r begin told (take i text) to t a b refused
      → ((rounds : List Round) → HasRounds disks p q from r rounds false to t
      → HasRunRounds disks p q from r rounds false None to)
      → RunsAll disks p q from r begin told text a b refused to
  runs_all p q told text i to t a b refused many ends rows h end = record {
    blocks = h.blocks;
    all = subst (λ (z : List script.Block). Pairs (IsBlockOf told) z h.blocks) (take_all i text (omega (many, arith))) h.are;
    ran = end (rounds_of h.blocks) h.ran;
    rows_are = rows ∙ ap (λ (z : Registry). z.rows) h.ran.after;
    renewed = h.renewed;
    written = h.written;
    refused_is = h.refused_is;
  }

  -- and the store went on in its table
  pub all_later : (p m q : Point D) (told : Option Files) (text : List script.Block) (a b : Option (List ℕ)) (refused : Bool) (to : ℕ)
      → RunsAll disks p m from r begin told text a b refused to
      → StoreRuns disks m q (λ w. Unit {0}) → Learns m.view q.view → EndsAlone q.view to → q.shape ≡ m.shape → q.rows ≡ m.rows
      → LeavesRows disks m.disk q.disk (λ was. was ++ m.rows ∷ []) (m.rows ∷ [])
      → RunsAll disks p q from r begin told text a b refused to
  all_later p m q told text a b refused to h runs learns ends shape rows left = record {
    blocks = h.blocks;
    all = h.all;
    ran = first_on disks p m q from to r (rounds_of h.blocks) false None h.ran runs learns ends shape
        (subst (λ (z : List CatRow). LeavesRows disks m.disk q.disk (λ was. was ++ z ∷ []) (z ∷ [])) h.rows_are left);
    rows_are = rows ∙ h.rows_are;
    renewed = h.renewed;
    written = h.written;
    refused_is = h.refused_is;
  }

  -- a fault came after all of them
  pub all_stopped : (p q : Point D) (disk : D) (told : Option Files) (text : List script.Block) (a b : Option (List ℕ))
      (refused : Bool) (to : ℕ) (e : Stopped) (h : RunsAll disks p q from r begin told text a b refused to)
      → StopsRounds disks p disk from r (rounds_of h.blocks) None e
      → RunsSome disks p disk from r begin told text a b refused e
  all_stopped p q disk told text a b refused to e h stop = record {
    blocks = h.blocks;
    part = [];
    cut = None;
    are = all_first told text h.blocks h.all;
    next = tt;
    stops = subst (λ (z : List Round). StopsRounds disks p disk from r z None e)
        (sym (append-nil (rounds_of h.blocks))) stop;
    renewed = subst (λ (z : List Round). AreRenewed p.view.about.number z true false) (sym (append-nil (rounds_of h.blocks)))
        (renewed_may p.view.about.number (rounds_of h.blocks) false false h.renewed);
    written = part_whole a b (report_text (report_of begin h.blocks)) h.written;
    refused_is = h.refused_is;
    exact = λ output memory. h.written;
    input = λ k. refl;
  }

  -- nothing ran, since the first item couldn't be written
  pub stops_first : (p : Point D) (disk : D) (told : Option Files) (text : List script.Block) (a b : Option (List ℕ)) (refused : Bool)
      (e : Stopped) → StopsRounds disks p disk from r [] None e → IsWriteFault e.why
      → GainedPart a b (report_text (begin ∷ [])) → refused ≡ false
      → RunsSome disks p disk from r begin told text a b refused e
  stops_first p disk told text a b refused e stop other part accepted = record {
    blocks = [];
    part = [];
    cut = None;
    are = tt;
    next = tt;
    stops = stop;
    renewed = tt;
    written = part;
    refused_is = accepted;
    exact = λ output memory. absurd (write_loud e.why other output memory);
    input = λ k. refl;
  }
