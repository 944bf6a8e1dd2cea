-- One region more is pending.
use Rattle.std.proofs.Common.{◌≡◌, ◌≢◌, ℕ, suc, ◌+◌, ◌-◌, ◌*◌, ◌/◌, ◌<◌, ◌≤◌, inr, List, [], ◌∷◌, ◌++◌, length, take}
use Rattle.std.proofs.Common.{sym, ap, ◌∙◌, subst, arith, append_assoc}
use Rattle.std.proofs.lemmas.List.{length-take-le}
use Rattle.std.proofs.Math.Decide.{dec_le}
use Rattle.std.specs.Vec.{vec_capacity, vec_len}
use Rattle.fish_catalog.specs.PageStarts.{starts_after}
use Rattle.fish_catalog.specs.declared.page_start.PageStart.{PageStart}
use Rattle.fish_flush.proofs.RegionSteps.{holds_later, line_later, line_same, line_start, read_more}
use Rattle.fish_flush.proofs.TableRegions.{ends_inside, some_lines}
use Rattle.fish_flush.specs.within.Filling.{HasAdded, HasBatchRoom, IsCopied, pending}
use Rattle.fish_flush.specs.Reading.{IsLineAt}
use Rattle.fish_flush.specs.within.Reading.{IsLooked, IsReadTo}
use Rattle.fish_flush.specs.declared.batch.Batch.{Batch}
use Rattle.fish_image.specs.Stands.{words_in}
use Rattle.fish_layout.specs.Header.{lines_of}
use Rattle.fish_layout.specs.Pages.{page_of}
use Rattle.fish_rule.proofs.laws.Lists.{all_among}
use Rattle.fish_rule.proofs.laws.Regions.{starts_rise}
use Rattle.fish_rule.specs.Facts.{IsFound}
use Rattle.fish_rule.proofs.laws.Learning.{extends_to_read, read_here}
use Rattle.fish_rule.proofs.laws.Steps.{header_law}
use Rattle.fish_rule.specs.LoadSteps.{after_read_word}
use Rattle.fish_rule.specs.Logs.{Extends, HasWords, Learns}
use Rattle.fish_rule.specs.Table.{IsOfMoment}
use Rattle.fish_rule.specs.Views.{Among}
use Rattle.fish_rule.specs.World.{last_line}
use Rattle.fish_rule.specs.declared.view.Found.{Found}
use Rattle.fish_rule.specs.declared.view.Key.{Key}
use Rattle.fish_rule.specs.declared.view.Kind.TheVariants.{Mark}
use Rattle.fish_rule.specs.declared.view.View.{View}

-- ---- regions

-- a region begins at a line, and ends within the table, some lines further on
pub record IsNext (k : Key) (at : ℕ) (f : Found) : Type 0 where
  pub begins : f.line ≡ at
  pub inside : f.line + f.lines ≤ k.end
  pub short : k.end ≤ last_line
  pub some : 1 ≤ f.lines
  pub few : f.lines ≤ 18625

-- a region that was read begins where all before it ends
pub region_next : (k : Key) (v u : View) (n at : ℕ) (f : Found) (words : List ℕ) → f.number ≡ n → f.kind ≢ Mark
    → Among f u.learned.found → HasWords u f words → IsLineAt v n at → Learns v u → IsOfMoment u → u.about ≡ k → IsNext k at f
region_next k v u n at f words number plain among has here on stands about =
    let end = ap (λ (z : Key). z.end) about in
    let inside = ends_inside stands.moment stands.rule stands.seat stands.at f among words has plain in
    let lines = some_lines stands.moment stands.rule stands.seat stands.at f among words has in
    record {
      begins = line_same u f at stands among
          (subst (λ (z : ℕ). IsLineAt u z at) (sym number) (line_later v u n at on here));
      inside = omega arith;
      short = subst (λ (z : Key). z.end ≤ last_line) about stands.rule.key_fits.low_end;
      some = lines.0;
      few = lines.1;
    }

-- a region that was found has few lines
pub few_lines : (v : View) (f : Found) → IsOfMoment v → Among f v.learned.found → f.lines ≤ 18625
few_lines v f s among =
    let one = all_among (IsFound v.about s.moment.count s.moment.dir s.rule.start) f v.learned.found
    (s.rule.facts s.seat v s.at).found among in
    let line = one.line in
    let lines = one.lines in
    let small = s.rule.space.regions.small f.number one.above one.below in
    omega arith

-- a region that was looked at ends where its header says
pub region_end : (m u : View) (n to line h lines : ℕ) (f : Found) → IsLooked m n line f → suc n ≡ to → IsOfMoment u
    → u ≡ after_read_word m (line * 4 + 0) h → lines ≡ lines_of h → IsLineAt u to (line + lines)
region_end m u n to line h lines f t next stands read size =
    let on = extends_to_read m u (line * 4 + 0) h read in
    let among = on.learns.found f t.among in
    let at = t.line_is in
    let place : line * 4 + 0 ≡ f.line * 4 = omega arith in
    let known = subst (λ (z : ℕ). Among (record { place = z; value = h }) u.learned.known) place
    (read_here m u (line * 4 + 0) h read) in
    let told = header_law u f h stands among t.plain known in
    let number = t.number in
    inr (f, among, omega arith, omega arith)

-- a later region begins no earlier
pub line_order : (u : View) (m n a b : ℕ) → IsOfMoment u → u.about.number ≤ m → m ≤ n → n ≤ u.learned.settled → IsLineAt u m a
    → IsLineAt u n b → a ≤ b
line_order u m n a b s above less settled first second =
    let one = line_start u m a s first in
    let other = line_start u n b s second in
    let floor = s.rule.floors s.seat u s.at in
    let within = s.rule.settling.within in
    let up = starts_rise u.about s.moment.count s.moment.line s.rule.start s.rule.space.regions m n above less (omega arith) in
    omega arith

-- there is room for the starts of the pages to come
added_starts : (a b : Batch) → HasBatchRoom a → a.line ≤ b.line → a.line ≤ a.end → b.page ≡ page_of a.line + 1 → b.end ≡ a.end
    → vec_len b.starts ≤ vec_len a.starts + 1 → (page_of a.line < a.page → vec_len b.starts ≡ vec_len a.starts)
    → vec_capacity b.starts ≡ vec_capacity a.starts
    → (vec_len b.starts + (page_of b.end - page_of b.line) ≤ vec_capacity b.starts)
    × (b.page ≤ page_of b.line → vec_len b.starts + (page_of b.end + 1 - page_of b.line) ≤ vec_capacity b.starts)
added_starts a b room ordered within page end_is few kept capacity = by (dec_le a.page (page_of a.line))
  where
    by : Dec (a.page ≤ page_of a.line)
        → (vec_len b.starts + (page_of b.end - page_of b.line) ≤ vec_capacity b.starts)
        × (b.page ≤ page_of b.line → vec_len b.starts + (page_of b.end + 1 - page_of b.line) ≤ vec_capacity b.starts)
    by (yes h) = (let own = room.own h in (omega arith, λ next. omega arith))
    by (no h) =
        let late : page_of a.line < a.page = omega (arith, h) in
        let same = kept late in
        let later = room.later in
        (omega arith, λ next. omega arith)

-- ---- one region more

module _ (k : Key) (v u : View) (n : ℕ) (a : Batch) (on : Extends v u) (stands : IsOfMoment u) (about : u.about ≡ k)
    (above : k.number ≤ n) (line : IsLineAt v n a.line) (heads' words : List ℕ) (size : ℕ)
    (copied : IsCopied u n a.heads.items heads' size words) where
  -- the region that was copied begins where all before it ends
  pub added_next : IsNext k a.line copied.found
  added_next = region_next k v u n a.line copied.found copied.read copied.number copied.plain copied.among copied.has line on.learns
      stands about

  -- so many lines it has
  pub added_lines : size ≡ 4 * copied.found.lines
  added_lines = copied.size_is ∙ copied.has.full ∙ omega arith

  -- the next one begins after it
  pub added_line : IsLineAt u (n + 1) (a.line + size / 4)
  added_line =
      let begins = added_next.begins in
      let lines = added_lines in
      let number = copied.number in
      inr (copied.found, copied.among, omega arith, omega arith)

  -- which is no later than where the last one begins
  pub added_end : (to : ℕ) → n < to → to ≤ v.learned.settled → IsLineAt v to a.end → a.line + size / 4 ≤ a.end
  added_end to less settled end =
      let more = on.learns.settled in
      let number = ap (λ (z : Key). z.number) about in
      line_order u (n + 1) to (a.line + size / 4) a.end stands (omega arith) (omega arith) (omega arith) added_line
      (line_later v u to a.end on.learns end)

  -- a batch with it
  pub added : (b : Batch) (to : ℕ) → n < to → to ≤ v.learned.settled → IsLineAt v to a.end → a.written ≤ a.line
      → page_of a.written ≡ page_of a.line → HasBatchRoom a → b.line ≡ a.line + size / 4 → b.written ≡ a.written → b.end ≡ a.end
      → b.heads.items ≡ heads' → length heads' ≡ length a.heads.items → length b.bytes.items ≡ length a.bytes.items
      → words_in (take (32 * (a.line - a.written) + 8 * length (take size words)) b.bytes.items)
      ≡ words_in (pending a) ++ take size words
      → length b.words.items ≡ length a.words.items → b.page ≡ page_of a.line + 1
      → b.starts.items ≡ starts_after a.page n a.line a.starts.items
      → vec_len b.starts ≤ vec_len a.starts + 1 → (page_of a.line < a.page → vec_len b.starts ≡ vec_len a.starts)
      → vec_capacity b.starts ≡ vec_capacity a.starts
      → HasAdded v u k.end n a b
  added b to less settled end near page room line_is written_is end_is heads_is many bytes put words_is page_is starts_is few_starts kept
      capacity =
      let next = added_next in
      let begins = next.begins in
      let inside = next.inside in
      let some_ = next.some in
      let few = next.few in
      let lines = added_lines in
      let room_bytes = room.bytes in
      let room_words = room.words in
      let out : List ℕ = take size words in
      let out_size : length out ≡ size = length-take-le size words copied.within in
      let upto : 32 * (a.line - a.written) + 8 * length out ≡ 32 * (b.line - b.written) = omega arith in
      let all : words_in (pending b) ≡ words_in (pending a) ++ out =
      ap (λ (m : ℕ). words_in (take m b.bytes.items)) (sym upto) ∙ put in
      let to_line : a.line + copied.found.lines ≡ b.line = omega arith in
      let at : copied.found.line ≡ a.line = begins in
      let upto_end = added_end to less settled end in
      let starts = added_starts a b room (omega arith) (omega arith) page_is end_is few_starts kept capacity in
      record {
        line = subst (λ (z : ℕ). IsLineAt u (n + 1) z) (sym line_is) added_line;
        later = omega arith;
        within = omega arith;
        written = written_is;
        end_is = end_is;
        room = record {
          bytes = bytes ∙ room_bytes;
          words = words_is ∙ room_words;
          later = starts.0;
          own = starts.1;
        };
        fits = omega arith;
        heads = ap length heads_is ∙ many;
        whole = length-take-le (32 * (a.line - a.written)) a.bytes.items (omega arith);
        read = λ c w old holds was.
            let frame = on.frame in
            let held = holds_later v u c.rows (ap (λ (z : View). z.lane) frame) (ap (λ (z : View). z.rows) frame)
            (ap (λ (z : View). z.control_words) frame) holds in
            let h = read_more u stands copied.found copied.among copied.plain copied.read copied.has a.heads.items heads' out copied.spelled
            c (w ++ words_in (pending a)) old n a.line a.page a.starts.items held copied.number at was in
            let spelled : (w ++ words_in (pending a)) ++ out ≡ w ++ words_in (pending b) =
            append_assoc w (words_in (pending a)) out ∙ ap (λ (l : List ℕ). w ++ l) (sym all) in (
              h.0,
              h.1,
              subst (λ (z : List ℕ × ℕ × List ℕ × ℕ × List PageStart). IsReadTo c z.0 (old ++ h.0 ∷ []) (n + 1) z.1 z.2 z.3 z.4)
                  (λ i. (spelled i, to_line i, sym heads_is i, sym page_is i, sym starts_is i)) h.2,
            );
      }
