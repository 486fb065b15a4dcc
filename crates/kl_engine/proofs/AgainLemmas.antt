-- What was printed of a whole file, read again, is the same.
use Rattle.std.proofs.Common.{◌≡◌, inl, inr, ℕ, ◌≤◌, Bool, true, false, List, [], ◌∷◌, ◌++◌, codes, length, take, Option, Some, None, refl, sym, ap, subst, ◌∙◌, append_assoc, append-nil, nat_le, if◌then◌else◌}
use Rattle.std.specs.List.{flat_map}
use Rattle.std.specs.Io.KnownBytes.{append_known}
use Rattle.std.proofs.lemmas.List.{take_all}
use Rattle.kl_outside.specs.Files.{FilesState, Holds}
use Rattle.kl_outside.specs.Sinks.{SinkState}
use Rattle.kl_value.specs.Written.{text_of}
use Rattle.kl_value.specs.declared.Value.{Value}
use Rattle.kl_type.specs.Reading.{ReadsType}
use Rattle.kl_type.specs.Written.{type_text}
use Rattle.kl_type.specs.declared.Ty.{Ty}
use Rattle.kl_exchange.specs.FileItems.{FileEnd, WholeText, BadAt, TooDeepAt, PastLimit, Items, most_read}
use Rattle.kl_exchange.specs.Found.{FileItem, values_of}
use Rattle.kl_exchange.specs.Grammar.{IsItem}
use Rattle.kl_exchange.proofs.Bytes.{at_most}
use Rattle.kl_exchange.proofs.Canonical.{item_again}
use Rattle.kl_heads.specs.Files.{Shows}
use Rattle.kl_heads.specs.Found.{FileText, file_text}
use Rattle.kl_heads.specs.Stated.{states_no_other}
use Rattle.kl_heads.proofs.Again.{read_headed}
use Rattle.kl_heads.proofs.FoundText.{text_shows}
use Rattle.kl_heads.proofs.OneEnd.{one_text}
use Rattle.kl_ask.specs.Driver.{State}
use Rattle.kl_engine.specs.Answering.{UpgradesTo}
use Rattle.kl_engine.specs.Outside.{outside_of}
use Rattle.kl_engine.specs.Showing.{DoesUpgrade}
use Rattle.kl_engine.specs.Verdict.{Verdict, behind, fits, head_line, item_line, listed, refused, upgraded, IsUpgrading}
use Rattle.kl_engine.specs.declared.fault.Fault.{Fault}
use Rattle.kl_engine.specs.declared.fault.Fault.TheVariants as fault

-- a listing that ends well has a line of each item
listed_well : (line : Value → List ℕ) (t : Option Ty) (xs : List FileItem) (end : FileEnd) → (listed line t xs end).ending ≡ None → (listed line t xs end).page ≡ flat_map line (values_of xs)
listed_well line t [] end well = refl
listed_well line t (x ∷ xs) end well = by (fits t x.1) refl (listed_well line t xs end)
  where
    by : (b : Bool) → fits t x.1 ≡ b → ((listed line t xs end).ending ≡ None → (listed line t xs end).page ≡ flat_map line (values_of xs)) → (listed line t (x ∷ xs) end).page ≡ flat_map line (values_of (x ∷ xs))
    by true is more = rw is (ap (λ p. line x.1 ++ p) (more (rw is at well)))
    by false is more = absurd (let none : Some (fault.BadFile x.0) ≡ None = rw is at well in cc)

-- an item behind the newline of the one before
abbrev again_line : Value → List ℕ
again_line v = codes "\n" ++ (text_of v ++ codes ";")

regroup : (vs : List Value) → codes "\n" ++ flat_map item_line vs ≡ flat_map again_line vs ++ codes "\n"
regroup [] = refl
regroup (v ∷ vs) =
    ap (λ p. codes "\n" ++ p) (append_assoc (text_of v) (codes ";\n") (flat_map item_line vs))
    ∙ (ap (λ p. codes "\n" ++ (text_of v ++ (codes ";" ++ p))) (regroup vs)
    ∙ (ap (λ p. codes "\n" ++ p) (sym (append_assoc (text_of v) (codes ";") (flat_map again_line vs ++ codes "\n")))
    ∙ sym (append_assoc (again_line v) (flat_map again_line vs) (codes "\n"))))

item_behind : (bytes : List ℕ) (v : Value) → IsItem 256 bytes v → IsItem 256 (codes "\n" ++ bytes) v
item_behind bytes v spells = record {
  text = codes "\n" ++ spells.text;
  is = ap (λ p. codes "\n" ++ p) spells.is;
  value = record {
    before = codes "\n" ++ spells.value.before;
    inside = spells.value.inside;
    after = spells.value.after;
    is = ap (λ p. codes "\n" ++ p) spells.value.is;
    blank_before = (refl, spells.value.blank_before);
    blank_after = spells.value.blank_after;
    spells = spells.value.spells;
  };
}

items_again : (read : List ℕ) (vs : List Value) → Items read vs → Items (flat_map again_line vs) vs
items_again read [] has = refl
items_again read (v ∷ vs) (item, rest, split, spells, others) = (again_line v, flat_map again_line vs, refl, item_behind (text_of v ++ codes ";") v (item_again 256 item v spells), items_again rest vs others)

module _ (word bytes : List ℕ) (t : Ty) (reads : ReadsType word t) where
  abbrev text : FileText
  text = file_text most_read bytes

  abbrev head_text : List ℕ
  head_text = codes "type " ++ (type_text t ++ codes ";")

  head_split : (rest : List ℕ) → head_line t ++ rest ≡ head_text ++ (codes "\n" ++ rest)
  head_split rest =
      append_assoc (codes "type " ++ type_text t) (codes ";\n") rest
      ∙ (append_assoc (codes "type ") (type_text t) (codes ";\n" ++ rest)
      ∙ (ap (λ p. codes "type " ++ p) (sym (append_assoc (type_text t) (codes ";") (codes "\n" ++ rest)))
      ∙ sym (append_assoc (codes "type ") (type_text t ++ codes ";") (codes "\n" ++ rest))))

  well_page : (b : Bool) → states_no_other t text.head ≡ b → (upgraded t text).ending ≡ None → (upgraded t text).page ≡ head_line t ++ flat_map item_line (values_of text.items)
  well_page true is well = rw is (ap (λ p. head_line t ++ p) (listed_well item_line (Some t) text.items text.behind (rw is at well)))
  well_page false is well = absurd (let none : Some (fault.BadFile 0) ≡ None = rw is at well in cc)

  pub page_again : (head : Option Ty) (vs : List Value) (end : FileEnd) → Shows most_read bytes head vs end → (upgraded t text).ending ≡ None
      → (limit : ℕ) → length (upgraded t text).page ≤ limit → Shows limit (upgraded t text).page (Some t) vs WholeText
  page_again head vs end shows well limit le = subst (λ p. Shows limit p (Some t) vs WholeText) (sym same) (record {
    front = head_text;
    read = flat_map again_line vs;
    left = codes "\n";
    seen = take_all limit (head_text ++ (flat_map again_line vs ++ codes "\n")) few;
    states = read_headed word t reads;
    items = items_again shows.read vs shows.items;
    ends = (at_most (length (head_text ++ (flat_map again_line vs ++ codes "\n"))) limit few, (refl, tt));
  })
    where
      values : values_of text.items ≡ vs
      values = sym (one_text most_read bytes head text.head vs (values_of text.items) end text.behind shows (text_shows most_read bytes)).1.0

      same : (upgraded t text).page ≡ head_text ++ (flat_map again_line vs ++ codes "\n")
      same = well_page (states_no_other t text.head) refl well ∙ (ap (λ ws. head_line t ++ flat_map item_line ws) values ∙ (head_split (flat_map item_line vs) ∙ ap (λ p. head_text ++ p) (regroup vs)))

      few : length (head_text ++ (flat_map again_line vs ++ codes "\n")) ≤ limit
      few = subst (λ p. length p ≤ limit) same le

pub upgrades_to : (path word : List ℕ) (ds : List State) (f f' : FilesState) (out out' : SinkState) → DoesUpgrade path word None (outside_of f ds out) (outside_of f' ds out') → (bytes : List ℕ) → Holds f path bytes → UpgradesTo word bytes out out'
upgrades_to path word ds f f' out out' does bytes (told, is, has) head vs end shows = by m.1
  where
    m : (v : Verdict) × IsUpgrading word (told path) v × (v.ending ≡ None)
    m = does.meant told is tt

    took : out'.taken ≡ append_known out.taken m.0.page
    took = (does.follows told is m.0 m.1).whole (sym m.2)

    by : IsUpgrading word (told path) m.0 → (t : Ty) × (page : List ℕ) × ReadsType word t × (out'.taken ≡ append_known out.taken page) × ((limit : ℕ) → length page ≤ limit → Shows limit page (Some t) vs WholeText)
    by (inl (g, wrong, eq)) = absurd (let none : Some g ≡ None = ap (λ w. w.ending) (sym eq) ∙ m.2 in cc)
    by (inr (t, reads, at)) =
        let v_is : m.0 ≡ upgraded t (file_text most_read bytes) = rw has at at in (
          t,
          m.0.page,
          reads,
          took,
          λ limit le. subst (λ v. Shows limit v.page (Some t) vs WholeText) (sym v_is)
              (page_again word bytes t reads head vs end shows (ap (λ w. w.ending) (sym v_is) ∙ m.2) limit (subst (λ v. length v.page ≤ limit) v_is le)),
        )
