-- Lines are written after those that were written before.
use Rattle.std.proofs.Common.{◌≡◌, ℕ, ◌+◌, ◌-◌, ◌*◌, ◌/◌, ◌<◌, ◌≤◌, List, [], ◌++◌, length, take, drop}
use Rattle.std.proofs.Common.{refl, ap, sym, ◌∙◌, subst, arith, length-append, length-drop}
use Rattle.std.proofs.Math.Seq.{drop-append_seam, take-add, take-append_seam, take-length}
use Rattle.std.proofs.lemmas.List.{length-take-le}
use Rattle.std.specs.Prelude.{Option, Some, None, IfSome}
use Rattle.fish_disk.specs.Content.{HasWritten, part, put_at}
use Rattle.fish_disk.specs.Crash.{LeavesOnly, Torn, TornFrom}
use Rattle.fish_disk.proofs.Moments.{leaves_more, leaves_none, leaves_then}
use Rattle.fish_disk.proofs.Regions.{put_part, put_within, told_at, torn_below, torn_more, torn_then}
use Rattle.fish_flush.specs.within.Writing.{HasPut, IsPut}
use Rattle.fish_slots.specs.Offsets.{lines_at}
use Rattle.fish_flush.proofs.Images.{part-add}

-- a piece that was put makes the content reach after it
pub put_long : (at : ℕ) (piece o c : List ℕ) → at ≤ length o → c ≡ put_at at piece o → at + length piece ≤ length c
put_long at piece o c within is =
    let front = length-take-le at o within in
    let size : length c ≡ length (put_at at piece o) = ap length is in
    let all = length-append (take at o) (piece ++ drop (at + length piece) o) in
    let behind = length-append piece (drop (at + length piece) o) in
    omega arith

-- what is so wherever a content is told
pub told_in : (x : Option (List ℕ)) (P : List ℕ → Type 0) → ((c : List ℕ) → x ≡ Some c → P c) → IfSome x P
told_in None P h = tt
told_in (Some c) P h = h c refl

-- a write of nothing leaves all
torn_none : (at : ℕ) (c : List ℕ) → Torn at 0 c c
torn_none at c = record { before = refl; after = refl; no_shorter = omega arith; no_longer = omega arith }

-- so many are there
taken : (n : ℕ) (l : List ℕ) → n ≤ length l → length (take n l) ≡ n
taken n l less = length-take-le n l less

-- one piece after what was put
pub put_more : (old mid new : Option (List ℕ)) (at n m to : ℕ) (lines piece : List ℕ) → n + m ≤ length lines → to ≡ at + n
    → piece ≡ take m (drop n lines) → HasPut old mid at (take n lines) → IfSome mid (λ c. to ≤ length c) → HasWritten mid new to piece
    → HasPut old new at (take (n + m) lines)
put_more old mid None at n m to lines piece less to_is is put long written = tt
put_more old mid (Some c) at n m to lines piece less to_is is put long written =
    let o : List ℕ = written.0 in
    let before = told_at (λ d. (x : List ℕ) × (old ≡ Some x) × Torn at (length (take n lines)) x d
    × (part at (length (take n lines)) d ≡ take n lines)) mid o written.1 put in
    let within : to ≤ length o = told_at (λ d. to ≤ length d) mid o written.1 long in
    let front : length (take n lines) ≡ n = taken n lines (omega arith) in
    let rest : length (take m (drop n lines)) ≡ m =
    length-take-le m (drop n lines) (let left = length-drop n lines in omega arith) in
    let size : length piece ≡ m = ap length is ∙ rest in
    let all : length (take (n + m) lines) ≡ n + m = taken (n + m) lines less in
    let first : Torn at n before.0 o = subst (λ (k : ℕ). Torn at k before.0 o) front before.2 in
    let second : Torn to m o c = put_within to m piece o c within (omega arith) written.2 in
    let second' : Torn (at + n) m o c = subst (λ (k : ℕ). Torn k m o c) to_is second in
    let both : Torn at (n + m) before.0 c = torn_then at n m before.0 o c first second' in
    let low : part at n c ≡ take n lines =
    torn_below (at + n) m at n o c second' (omega arith)
    ∙ subst (λ (k : ℕ). part at k o ≡ take n lines) front before.3 in
    let high : part (at + n) m c ≡ take m (drop n lines) =
    subst (λ (k : ℕ). part k m c ≡ take m (drop n lines)) to_is
    (subst (λ (k : ℕ). part to k c ≡ take m (drop n lines)) size
    (ap (λ (l : List ℕ). part to (length piece) l) written.2 ∙ put_part to piece o within ∙ is)) in (
      before.0,
      before.1,
      subst (λ (k : ℕ). Torn at k before.0 c) (sym all) both,
      subst (λ (k : ℕ). part at k c ≡ take (n + m) lines) (sym all)
          (part-add at n m c ∙ (λ i. low i ++ high i) ∙ sym (take-add n m lines)),
    )

-- a piece after lines that were put
pub put_behind : (old mid new : Option (List ℕ)) (at to : ℕ) (lines piece : List ℕ) → to ≡ at + length lines
    → HasPut old mid at lines → IfSome mid (λ c. to ≤ length c) → HasWritten mid new to piece → HasPut old new at (lines ++ piece)
put_behind old mid new at to lines piece to_is put long written =
    let size = length-append lines piece in
    let back : take (length piece) (drop (length lines) (lines ++ piece)) ≡ piece =
    ap (λ (l : List ℕ). take (length piece) l) (drop-append_seam lines piece) ∙ take-length piece in
    let all : take (length lines + length piece) (lines ++ piece) ≡ lines ++ piece =
    ap (λ (n : ℕ). take n (lines ++ piece)) (sym size) ∙ take-length (lines ++ piece) in
    subst (HasPut old new at) all
    (put_more old mid new at (length lines) (length piece) to (lines ++ piece) piece (omega arith) to_is (sym back)
    (subst (HasPut old mid at) (sym (take-append_seam lines piece)) put) long written)

-- no line is put where none is written
pub put_none : (o : Option (List ℕ)) (at : ℕ) → HasPut o o at []
put_none None at = tt
put_none (Some c) at = (c, refl, torn_none at c, refl)

-- lines that were put stand at their place
pub put_is : (old new : Option (List ℕ)) (line : ℕ) (lines : List ℕ) → HasPut old new (lines_at + 32 * line) lines
    → IfSome old (λ c. lines_at + 32 * line ≤ length c) → IfSome new (IsPut line lines)
put_is old None line lines put long = tt
put_is old (Some c) line lines put long =
    let within = told_at (λ d. lines_at + 32 * line ≤ length d) old put.0 put.1 long in
    let more = put.2.no_shorter in
    (omega arith, put.3)

-- and the content reaches after it
pub long_more : (mid new : Option (List ℕ)) (to end : ℕ) (piece : List ℕ) → to + length piece ≡ end → IfSome mid (λ c. to ≤ length c)
    → HasWritten mid new to piece → IfSome new (λ c. end ≤ length c)
long_more mid None to end piece is long written = tt
long_more mid (Some c) to end piece is long written =
    let within : to ≤ length written.0 = told_at (λ d. to ≤ length d) mid written.0 written.1 long in
    let reach = put_long to piece written.0 c within written.2 in
    omega arith

module _ {D : Type 0} (images : D → List ℕ → Type 0) (since : D → ℕ → List ℕ → Type 0) (moment : D → ℕ) where
  -- a crash leaves a torn write of both together
  pub crash_more : (old mid new : D) (at n m k to size : ℕ) → to ≡ at + n → size ≡ m → n + m ≤ k
      → LeavesOnly images since moment old mid (TornFrom (images old) at n)
      → LeavesOnly images since moment mid new (TornFrom (images mid) to size)
      → LeavesOnly images since moment old new (TornFrom (images old) at k)
  crash_more old mid new at n m k to size to_is size_is less first second =
      let P : List ℕ → Type 0 = TornFrom (images old) at k in
      leaves_then images since moment old mid new P
      (leaves_more images since moment old mid (TornFrom (images old) at n) P
      (λ c from. (from.0, from.1, torn_more at n k from.0 c (omega arith) from.2)) first)
      (leaves_more images since moment mid new (TornFrom (images mid) to size) P
      (λ c from.
      let before = first.now from.0 from.1 in
      let write : Torn (at + n) m from.0 c = subst (λ (z : ℕ × ℕ). Torn z.0 z.1 from.0 c) (λ i. (to_is i, size_is i)) from.2 in
      (before.0, before.1, torn_more at (n + m) k before.0 c less (torn_then at n m before.0 from.0 c before.2 write))) second)

-- ---- all lines so far

module _ {D : Type 0} (content : D → Option (List ℕ)) (images : D → List ℕ → Type 0) (since : D → ℕ → List ℕ → Type 0)
    (moment faults : D → ℕ) (x : D) where
  -- lines from one on up to another were written since a disk was so
  pub record AreWritten (y : D) (line written : ℕ) (lines : List ℕ) : Type 0 where
    pub put : HasPut (content x) (content y) (lines_at + 32 * line) lines
    pub long : IfSome (content y) (λ c. lines_at + 32 * written ≤ length c)
    pub crash : LeavesOnly images since moment x y (TornFrom (images x) (lines_at + 32 * line) (32 * (written - line)))
    pub calls : moment y ≤ moment x + ((written + 32767) / 32768 - line / 32768)
    pub faults_rise : faults x ≤ faults y

  -- none yet
  pub written_none : (line : ℕ) → IfSome (content x) (λ c. lines_at + 32 * line ≤ length c) → AreWritten x line line []
  written_none line long = record {
    put = put_none (content x) (lines_at + 32 * line);
    long = long;
    crash = leaves_none images since moment x _ (λ c here. (
      c,
      here,
      torn_more (lines_at + 32 * line) 0 (32 * (line - line)) c c (omega arith)
          (torn_none (lines_at + 32 * line) c),
    ));
    calls = omega arith;
    faults_rise = omega arith;
  }

  -- a write that may have failed leaves no more than torn lines
  pub written_torn : (y z : D) (line written to : ℕ) (lines : List ℕ) → line ≤ written → written ≤ to → AreWritten y line written lines
      → LeavesOnly images since moment y z (TornFrom (images y) (lines_at + 32 * written) (32 * (to - written)))
      → LeavesOnly images since moment x z (TornFrom (images x) (lines_at + 32 * line) (32 * (to - line)))
  written_torn y z line written to lines upto more h write =
      crash_more images since moment x y z (lines_at + 32 * line) (32 * (written - line)) (32 * (to - written)) (32 * (to - line))
      (lines_at + 32 * written) (32 * (to - written)) (omega arith) refl (omega arith) h.crash write

  -- more lines after them
  pub written_more : (y z : D) (line written to : ℕ) (lines piece : List ℕ) → line ≤ written → written < to
      → length lines ≡ 32 * (written - line) → length piece ≡ 32 * (to - written) → AreWritten y line written lines
      → HasWritten (content y) (content z) (lines_at + 32 * written) piece
      → LeavesOnly images since moment y z (TornFrom (images y) (lines_at + 32 * written) (32 * (to - written)))
      → moment z ≤ moment x + ((to + 32767) / 32768 - line / 32768) → faults y ≤ faults z
      → AreWritten z line to (lines ++ piece)
  written_more y z line written to lines piece upto more size many h put write calls faults_rise =
      let before = h.faults_rise in
      record {
        put = put_behind (content x) (content y) (content z) (lines_at + 32 * line) (lines_at + 32 * written) lines piece (omega arith)
            h.put h.long put;
        long = long_more (content y) (content z) (lines_at + 32 * written) (lines_at + 32 * to) piece (omega arith) h.long put;
        crash = written_torn y z line written to lines upto (omega arith) h write;
        calls = calls;
        faults_rise = omega arith;
      }
