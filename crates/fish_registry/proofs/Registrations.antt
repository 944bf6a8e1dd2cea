-- The operation that registers a row, once the row's words are stored.
use Rattle.std.proofs.Common.{◌≡◌, ℕ, zero, suc, ◌+◌, ◌-◌, ◌*◌, ◌%◌, ◌<◌, ◌≤◌, inl, List, [], Some, None}
use Rattle.std.proofs.Common.{◌∷◌, ◌++◌, Option, is_none, true, length, slice_index, sym, ap, ◌∙◌, subst, arith}
use Rattle.std.proofs.Math.Decide.{ℕ_discrete, dec_lt}
use Rattle.fish_catalog.proofs.RowWords.{listed_same, name_back, text_back}
use Rattle.fish_catalog.specs.Listing.{IsNewName, ended_at, listed_in}
use Rattle.fish_catalog.specs.Rows.{is_active}
use Rattle.fish_catalog.specs.Words.{IsWritable, bit_of, name_in, row_word, text_in}
use Rattle.fish_catalog.specs.declared.listed.Listed.{Listed}
use Rattle.fish_catalog.specs.declared.row.CatRow.{CatRow}
use Rattle.fish_layout.proofs.Clearing.{choose_first, choose_second}
use Rattle.fish_layout.specs.Bytes.{word_at}
use Rattle.fish_layout.specs.Cleared.{choose}
use Rattle.fish_registry.proofs.Changing.{changes_from}
use Rattle.fish_registry.specs.within.Rows.{HasDrafted, HasAddedRow, MayMake, MayRegisterRow}
use Rattle.fish_rule.proofs.laws.Clocks.{later_both, later_ticked}
use Rattle.fish_rule.specs.RegistrySteps.{CanRaiseVersion, CanDefineWord, after_raise_version, after_define_word}
use Rattle.fish_rule.specs.RegistrySteps.{next_operation}
use Rattle.fish_rule.specs.Registry.{AreRowWords, IsOperation, control_word, made, op_at, row_at, row_in, row_spelled}
use Rattle.fish_rule.specs.declared.view.Round.{Round}
use Rattle.fish_rule.specs.declared.view.View.{View}

-- the words of an active row after its boundaries are those of another one of its name and text
words_else : (row other : CatRow) → row.name ≡ other.name → row.def ≡ other.def → is_active row ≡ is_active other
    → (i : ℕ) → 2 ≤ i → row_word row i ≡ row_word other i
unfolding row_word
words_else row other name text active zero low = absurd (omega arith)
words_else row other name text active (suc zero) low = absurd (omega arith)
words_else row other name text active (suc (suc zero)) low =
    λ i. length (name i) + length (text i) * 256 + bit_of (active i) * 65536
words_else row other name text active (suc (suc (suc k))) low =
    λ i. choose (dec_lt k 4) (word_at (name i) k) (word_at (text i) (k - 4))

-- the control pass may make this version, and stored the words of the row
pub record IsDrafted (v : View) (row : CatRow) (version id : ℕ) (u : View) : Type 0 where
  pub is_id : id ≡ row.id
  pub make : MayMake v version
  pub may : MayRegisterRow v row
  pub writable : IsWritable row
  pub words : List ℕ
  pub says : (i : ℕ) → i < 39 → slice_index words i ≡ row_word row i
  pub control_word : HasDrafted v words 39 u

module _ (v : View) (row : CatRow) (version id : ℕ) (u : View) (is : IsDrafted v row version id u) where
  only : u ≡ record v { control_words = u.control_words; clock = u.clock }
  only = is.control_word.only

  reached : u.learned.version ≡ version
  reached = ap (λ (z : View). z.learned.version) only ∙ sym is.make.is

  same_rows : u.rows ≡ v.rows
  same_rows = ap (λ (z : View). z.rows) only

  -- the operation may be stored
  pub can_store : CanDefineWord u (op_at (suc version)) (256 + id)
  can_store = record {
    control = ap (λ (z : View). z.lane) only ∙ is.make.control;
    next = inl (
      (let few = is.make.few in let e = reached in omega arith),
      (let e = reached in omega arith),
    );
  }

  -- the view then
  abbrev behind : View
  behind = after_define_word u (op_at (suc version)) (256 + id)

  -- the words that stand in the next row
  abbrev in_row : ℕ → ℕ
  in_row = row_in (control_word behind.control_words) (length v.rows)

  in_row_is : (i : ℕ) → 2 ≤ i → i < 39 → in_row i ≡ row_word row i
  in_row_is i low high =
      let few = is.make.few in
      choose_second (ℕ_discrete (row_at (length v.rows) i) (op_at (suc version))) (256 + id)
      (control_word u.control_words (row_at (length v.rows) i)) (λ same. omega arith)
      ∙ is.control_word.row i low high ∙ is.says i high

  listed : (n : ℕ) → listed_in in_row n true ≡ record { id = n; name = row.name; def = row.def; active = true }
  listed n =
      listed_same in_row (row_word row) n true in_row_is
      ∙ ap (λ (name : List ℕ). record { id = n; name = name; def = text_in (row_word row); active = true })
      (name_back row is.writable)
      ∙ ap (λ (text : List ℕ). record { id = n; name = row.name; def = text; active = true })
      (text_back row is.writable)

  operation : next_operation behind ≡ 256 + length v.rows
  operation =
      choose_first (ℕ_discrete (op_at (suc u.learned.version)) (op_at (suc version))) (256 + id)
      (control_word u.control_words (op_at (suc u.learned.version))) (let e = reached in omega arith)
      ∙ ap (λ (n : ℕ). 256 + n) (is.is_id ∙ is.may.id)

  may_register : IsNewName v.rows (name_in in_row) (text_in in_row)
  may_register =
      subst (λ (l : Listed). IsNewName v.rows l.name l.def) (sym (listed 0)) is.may.new

  active : is_active row ≡ true
  active = ap (λ (t : Option ℕ). is_none t) is.may.active

  -- after the boundaries the words are those of a row of this name and text
  row_words : AreRowWords in_row
  row_words i low few =
      let name : name_in in_row ≡ row.name = ap (λ (l : Listed). l.name) (listed 0) in
      let text : text_in in_row ≡ row.def = ap (λ (l : Listed). l.def) (listed 0) in
      in_row_is i low few ∙ words_else row (row_spelled in_row) (sym name) (sym text) active i low

  room : length v.rows < 256
  room = is.may.new.room

  -- the version may be raised
  pub can_raise : CanRaiseVersion behind
  can_raise = record {
    control = ap (λ (z : View). z.lane) only ∙ is.make.control;
    outside = ap (λ (z : View). z.epoch) only ∙ is.make.outside;
    few = (let few = is.make.few in let e = reached in omega arith);
    settled = ap (λ (z : View). z.round) only ∙ is.make.settled;
    operation = subst (λ (ls : List Listed). IsOperation (row_in (control_word behind.control_words) (length ls)) ls
        (next_operation behind)) (sym same_rows) (inl (operation, may_register, row_words));
    ends = λ n e. (let o = operation in let few = room in absurd (omega arith));
  }

  -- and then the row is one of the definitions
  made_rows : made (control_word behind.control_words) (next_operation behind) v.rows
      ≡ v.rows ++ record { id = row.id; name = row.name; def = row.def; active = true } ∷ []
  made_rows =
      let few = room in
      choose_first (dec_lt (next_operation behind) 512)
      (v.rows ++ listed_in in_row (length v.rows) true ∷ []) (ended_at (next_operation behind % 256) v.rows)
      (let e = operation in omega arith)
      ∙ ap (λ (l : Listed). v.rows ++ l ∷ []) (listed (length v.rows))
      ∙ ap (λ (n : ℕ). v.rows ++ record { id = n; name = row.name; def = row.def; active = true } ∷ []) (sym is.may.id)

  -- its registration waits
  waits : (after_raise_version behind).round ≡ Some (record {
    id = row.id;
    version = suc v.learned.version;
    checked = 1 ∷ [];
    bound = None;
  })
  waits =
      let few = room in
      choose_first (dec_lt (next_operation behind) 512) _ None (let e = operation in omega arith)
      ∙ (λ i. let o : Round = record {
        id = (ap (λ (ls : List Listed). length ls) same_rows ∙ sym is.may.id) i;
        version = suc ((ap (λ (z : View). z.learned.version) only) i);
        checked = 1 ∷ [];
        bound = None;
      } in Some o)

  pub registered : HasAddedRow v row (after_raise_version behind)
  registered =
      let u' : View = after_raise_version behind in
      let h = is.control_word in
      record {
        changes = changes_from v u' u'.rows u'.control_words u'.round v.tail v.learned.count (suc v.learned.version)
            v.learned.words v.learned.opens u'.clock
            (ap (λ (z : View). record z {
              rows = u'.rows;
              control_words = u'.control_words;
              round = u'.round;
              learned = record z.learned { version = suc z.learned.version };
              clock = u'.clock;
            }) only) (omega arith) (omega arith) (λ x m. m) (λ o m. m)
            (later_both v.clock u.clock u'.clock h.clock
            (later_both u.clock behind.clock u'.clock (later_ticked u.clock) (later_ticked behind.clock))) h.loads;
        rows = ap (made (control_word behind.control_words) (next_operation behind)) same_rows ∙ made_rows;
        version = ap (λ (z : View). suc z.learned.version) only;
        count = ap (λ (z : View). z.learned.count) only;
        round = waits;
        tail = ap (λ (z : View). z.tail) only;
        bounds = λ n i small. let few = is.make.few in
            choose_second (ℕ_discrete (row_at n i) (op_at (suc version))) (256 + id) (control_word u.control_words (row_at n i))
            (λ same. omega arith) ∙ h.bounds n i small;
      }
