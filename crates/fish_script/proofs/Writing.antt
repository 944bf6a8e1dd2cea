-- A builder with one line more.
use Rattle.std.proofs.Common.{◌≡◌, ℕ, zero, suc, ◌+◌, ◌<◌, ◌≤◌, List, [], ◌∷◌, ◌++◌, refl, sym, ap, subst, ◌∙◌, arith}
use Rattle.std.proofs.Common.{append_assoc, length-append, cond}
use Rattle.std.specs.Prelude.{Bool, true, false, count_by, if◌then◌else◌}
use Rattle.std.proofs.lemmas.List.Sums.{sum_by_push}
use Rattle.fish_script.proofs.Appending.{blocks_push, feeds_push, lanes_push, others_begin, others_push}
use Rattle.fish_script.proofs.Appending.{read_push}
use Rattle.fish_script.specs.within.Building.{IsBegun, IsScriptWritten}
use Rattle.fish_script.specs.Limits.{most_feeds, most_lanes}
use Rattle.fish_script.specs.Positions.{Fits, position_after, with_feed}
use Rattle.fish_script.specs.Script.{AreBlocks, AreLaneLines, ReadsStatement, feeds_of, is_feed}
use Rattle.fish_script.specs.declared.builder.Position.TheVariants.{Outside, Inside}
use Rattle.fish_script.specs.declared.script.Block.{Block}
use Rattle.fish_script.specs.declared.script.Statement.{Statement}
use Rattle.fish_script.specs.declared.script_line.StatementLine.{StatementLine}
use Rattle.fish_script.specs.declared.script_line.StatementLine.TheVariants as word
use Rattle.fish_script.specs.declared.script_line.ScriptLine.{ScriptLine}
use Rattle.fish_script.specs.declared.script_line.ScriptLine.TheVariants as said

-- `lanes`
pub written_lanes : (ws : List ScriptLine) (blocks : List Block) (lanes : List (List Statement)) (lane : List Statement)
    → IsScriptWritten ws Outside blocks lanes lane → IsScriptWritten (ws ++ said.Lanes ∷ []) (Inside 0 0) blocks lanes lane
written_lanes ws blocks lanes lane h = (ws, [], refl, h.0, (refl, refl, h.1, h.2))

-- one line more inside of a block
inside_push : (ws front inside : List ScriptLine) (w : ScriptLine) → ws ≡ front ++ said.Lanes ∷ inside
    → ws ++ w ∷ [] ≡ front ++ said.Lanes ∷ (inside ++ w ∷ [])
inside_push ws front inside w e = ap (λ (z : List ScriptLine). z ++ w ∷ []) e ∙ append_assoc front (said.Lanes ∷ inside) (w ∷ [])

-- a first lane without a statement
first_lane : IsBegun (said.Lane ∷ []) 0 0 [] []
first_lane = record {
  ended = [];
  own = [];
  lines = refl;
  are = refl;
  read = tt;
  count = refl;
  few = omega arith;
  files = refl;
  few_feeds = omega arith;
  free = tt;
}

-- the first `lane`
pub written_first : (ws : List ScriptLine) (feeds : ℕ) (blocks : List Block) (lanes : List (List Statement)) (lane : List Statement)
    → IsScriptWritten ws (Inside 0 feeds) blocks lanes lane → IsScriptWritten (ws ++ said.Lane ∷ []) (Inside 1 feeds) blocks lanes lane
written_first ws feeds blocks lanes lane h = (
  h.0,
  h.1 ++ said.Lane ∷ [],
  inside_push ws h.0 h.1 said.Lane h.2,
  h.3,
  subst (λ (z : List ScriptLine). IsBegun (z ++ said.Lane ∷ []) 0 feeds lanes lane) (sym h.4.0)
      (subst (λ (z : ℕ). IsBegun (said.Lane ∷ []) 0 z lanes lane) (sym h.4.1)
      (subst (λ (z : List (List Statement)). IsBegun (said.Lane ∷ []) 0 0 z lane) (sym h.4.2)
      (subst (λ (z : List Statement). IsBegun (said.Lane ∷ []) 0 0 [] z) (sym h.4.3) first_lane))),
)

-- a later `lane`
pub written_next : (ws : List ScriptLine) (more feeds : ℕ) (blocks : List Block) (lanes : List (List Statement)) (lane : List Statement)
    → IsScriptWritten ws (Inside (suc more) feeds) blocks lanes lane → suc more < most_lanes
    → IsScriptWritten (ws ++ said.Lane ∷ []) (Inside (suc (suc more)) feeds) blocks (lanes ++ lane ∷ []) []
written_next ws more feeds blocks lanes lane h room =
    let b : IsBegun h.1 more feeds lanes lane = h.4 in (
      h.0,
      h.1 ++ said.Lane ∷ [],
      inside_push ws h.0 h.1 said.Lane h.2,
      h.3,
      record {
        ended = h.1;
        own = [];
        lines = refl;
        are = subst (λ (z : List ScriptLine). AreLaneLines z (lanes ++ lane ∷ [])) (sym b.lines)
            (lanes_push b.ended b.own lanes lane b.are b.read);
        read = tt;
        count = omega (arith, length-append lanes (lane ∷ []), b.count);
        few = omega arith;
        files = omega (arith, feeds_push lanes lane, b.files);
        few_feeds = b.few_feeds;
        free = others_begin lanes lane b.free;
      },
    )

-- `end`
pub written_end : (ws : List ScriptLine) (more feeds : ℕ) (blocks : List Block) (lanes : List (List Statement)) (lane : List Statement)
    → IsScriptWritten ws (Inside (suc more) feeds) blocks lanes lane
    → AreBlocks (ws ++ said.End ∷ []) (blocks ++ record { several = true; lanes = lanes ++ lane ∷ [] } ∷ [])
written_end ws more feeds blocks lanes lane h =
    let b : IsBegun h.1 more feeds lanes lane = h.4 in
    subst (λ (z : List ScriptLine). AreBlocks z (blocks ++ record { several = true; lanes = lanes ++ lane ∷ [] } ∷ []))
    (sym (inside_push ws h.0 h.1 said.End h.2))
    (blocks_push h.0 (said.Lanes ∷ (h.1 ++ said.End ∷ [])) blocks (record { several = true; lanes = lanes ++ lane ∷ [] }) h.3 (record {
      inside = h.1;
      lines = refl;
      are = subst (λ (z : List ScriptLine). AreLaneLines z (lanes ++ lane ∷ [])) (sym b.lines)
          (lanes_push b.ended b.own lanes lane b.are b.read);
      some = omega (arith, length-append lanes (lane ∷ []));
      few = omega (arith, length-append lanes (lane ∷ []), b.count, b.few);
      few_feeds = omega (arith, feeds_push lanes lane, b.files, b.few_feeds);
      free = b.free;
    }))

-- a statement by itself
pub written_alone : (ws : List ScriptLine) (blocks : List Block) (w : StatementLine) (s : Statement) → AreBlocks ws blocks
    → ReadsStatement w s
    → AreBlocks (ws ++ said.Statement w ∷ []) (blocks ++ record { several = false; lanes = (s ∷ []) ∷ [] } ∷ [])
written_alone ws blocks w s h reads =
    blocks_push ws (said.Statement w ∷ []) blocks (record { several = false; lanes = (s ∷ []) ∷ [] }) h (record {
      line = said.Statement w;
      statement = s;
      lines = refl;
      read = reads;
      one = refl;
    })

-- how many files are stored with one statement more
files_push : (lane : List Statement) (s : Statement) → count_by is_feed (lane ++ s ∷ []) ≡ count_by is_feed lane + cond (is_feed s) 1 0
files_push lane s = sum_by_push (λ (t : Statement). cond (is_feed t) 1 0) lane s

-- a statement in a lane
pub written_statement : (ws : List ScriptLine) (begun feeds : ℕ) (blocks : List Block) (lanes : List (List Statement))
    (lane : List Statement) (w : StatementLine) (s : Statement) → IsScriptWritten ws (Inside begun feeds) blocks lanes lane → 1 ≤ begun
    → ReadsStatement w s → Fits (Inside begun feeds) s
    → IsScriptWritten (ws ++ said.Statement w ∷ []) (Inside begun (if is_feed s then feeds + 1 else feeds)) blocks lanes (lane ++ s ∷ [])
written_statement ws zero feeds blocks lanes lane w s h some reads fits = absurd (omega arith)
written_statement ws (suc more) feeds blocks lanes lane w s h some reads fits =
    let b : IsBegun h.1 more feeds lanes lane = h.4 in (
      h.0,
      h.1 ++ said.Statement w ∷ [],
      inside_push ws h.0 h.1 (said.Statement w) h.2,
      h.3,
      record {
        ended = b.ended;
        own = b.own ++ said.Statement w ∷ [];
        lines = ap (λ (z : List ScriptLine). z ++ said.Statement w ∷ []) b.lines
            ∙ append_assoc b.ended (said.Lane ∷ b.own) (said.Statement w ∷ []);
        are = b.are;
        read = read_push b.own lane (said.Statement w) s b.read reads;
        count = b.count;
        few = b.few;
        files = files (is_feed s) refl;
        few_feeds = few_feeds (is_feed s) refl;
        free = others_push lanes lane s b.free (λ control. omega (arith, fits.0 control, b.count));
      },
    )
  where
    files : (f : Bool) → is_feed s ≡ f → (if is_feed s then feeds + 1 else feeds) ≡ feeds_of lanes + count_by is_feed (lane ++ s ∷ [])
    files true is =
        let more : count_by is_feed (lane ++ s ∷ []) ≡ count_by is_feed lane + 1 =
        files_push lane s ∙ ap (λ (z : Bool). count_by is_feed lane + cond z 1 0) is in
        let sum : feeds + 1 ≡ feeds_of lanes + count_by is_feed (lane ++ s ∷ []) = omega (arith, h.4.files, more) in
        rw is sum
    files false is =
        let same : count_by is_feed (lane ++ s ∷ []) ≡ count_by is_feed lane + 0 =
        files_push lane s ∙ ap (λ (z : Bool). count_by is_feed lane + cond z 1 0) is in
        let sum : feeds ≡ feeds_of lanes + count_by is_feed (lane ++ s ∷ []) = omega (arith, h.4.files, same) in
        rw is sum

    few_feeds : (f : Bool) → is_feed s ≡ f → (if is_feed s then feeds + 1 else feeds) ≤ most_feeds
    few_feeds true is = let few : feeds + 1 ≤ most_feeds = omega (arith, fits.1 is) in rw is few
    few_feeds false is = rw is h.4.few_feeds

-- a statement stores a file where its statement_line does
pub feed_read : (feeds : ℕ) (w : StatementLine) (s : Statement) → ReadsStatement w s → (if is_feed s then feeds + 1 else feeds)
    ≡ with_feed w feeds
feed_read feeds (word.Register name source) s reads = let e : is_feed s ≡ false = ap is_feed reads.1 in rw e
feed_read feeds (word.Deregister name) s reads = let e : is_feed s ≡ false = ap is_feed reads in rw e
feed_read feeds (word.Ingest form header file) s reads = let e : is_feed s ≡ true = ap is_feed reads in rw e
feed_read feeds (word.Scan look) s reads = let e : is_feed s ≡ false = ap is_feed reads in rw e
feed_read feeds (word.Explain look) s reads = let e : is_feed s ≡ false = ap is_feed reads in rw e
feed_read feeds word.Checkpoint s reads = let e : is_feed s ≡ false = ap is_feed reads in rw e

-- where the line after a statement stands
pub place_statement : (begun feeds : ℕ) (w : StatementLine) (s : Statement) → ReadsStatement w s
    → Inside begun (if is_feed s then feeds + 1 else feeds) ≡ position_after (Inside begun feeds) (said.Statement w)
place_statement begun feeds w s reads = ap (λ (n : ℕ). Inside begun n) (feed_read feeds w s reads)
