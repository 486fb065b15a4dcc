-- Sources of a server: what it suits, and how they are attached.
use Rattle.std.proofs.Common.{◌≡◌, ◌≢◌, ◌≤◌, ℕ, true, not, ◌==◌, List, [], length, Option, Some, None, Result, Ok, Err, IsSome, inl, inr, refl, sym, ap, ◌∙◌, subst, cond, nat_eq, arith}
use Rattle.std.specs.Cmp.Lexicographic.{pointwise}
use Rattle.std.specs.HashMap.{IsUnchanged}
use Rattle.std.specs.Map.{lookup}
use Rattle.std.specs.List.{AllByRecursion, IsDistinct}
use Rattle.std.specs.Option.{option_map}
use Rattle.std.proofs.lemmas.Bool.{and_parts}
use Rattle.kl_value.specs.declared.Kind.{Kind}
use Rattle.kl_value.specs.declared.Kind.TheVariants as kind
use Rattle.kl_value.specs.declared.Value.{Value}
use Rattle.kl_type.specs.Ground.{ground_of}
use Rattle.kl_type.specs.declared.ground.Ty.{Ty, Ty-F, out-Ty, roll-Ty, roll-out-Ty}
use Rattle.kl_type.specs.declared.ground.Ty.TheVariants as ty
use Rattle.kl_type.proofs.GroundLemmas.{ground-Coll}
use Rattle.kl_type.proofs.RowLemmas.{same_label}
use Rattle.kl_outside.specs.Files.{FilesState, ReadsWhole}
use Rattle.kl_outside.specs.declared.files.Whole.{Whole}
use Rattle.kl_outside.specs.declared.stop.Stop.{Stop}
use Rattle.kl_outside.specs.declared.stop.Stop.TheVariants as stop
use Rattle.kl_outcome.specs.Outcome.{Name}
use Rattle.kl_outcome.specs.Typed.{Inhabits}
use Rattle.kl_ask.specs.Asks.{item_of, kind_of}
use Rattle.kl_ask.specs.Driver.{Attaches, Bad, Deep, Long, Missing, Rows, Stored, Suits, same_value, stored_by, told_rows}
use Rattle.kl_ask.specs.Named.{source_named}
use Rattle.kl_ask.specs.Tables.{columns_of, items_layer}
use Rattle.kl_ask.specs.declared.ask.Ask.{Ask}
use Rattle.kl_ask.specs.declared.ask.DriverError.{DriverError}
use Rattle.kl_ask.specs.declared.ask.DriverError.TheVariants as error
use Rattle.kl_ask.proofs.Names.{not_same}
use Rattle.kl_flat.specs.Attaching.{ReadsRows, RowsOf}
use Rattle.kl_flat.specs.ColumnTable.{rows_of}
use Rattle.kl_flat.specs.Columns.{is_table_type}
use Rattle.kl_flat.specs.Flat.{Sources, attached_of, contents_of, flat_state, most_bytes, told_only}
use Rattle.kl_flat.proofs.Attaching.{Good, at_path, attach_stopped, good_read}
use Rattle.kl_flat.proofs.Suiting.{item_flat, suits as suits_flat}
use Rattle.kl_flat.proofs.Typing.{rows_typed}
use Rattle.kl_sqltext.specs.Meaning.{without_repeats}
use Rattle.kl_sqlserve.specs.Attaching.{AddsTable}
use Rattle.kl_sqlserve.specs.Server.{cursor_of, is_list_layer, is_served, is_set, is_set_layer, kept_contents, kept_rows, kept_stored, sql_kind, sql_state}
use Rattle.kl_ask.specs.Cursors.{open_at}
use Rattle.kl_sqlserve.specs.declared.joined.Open.{Open}
use Rattle.kl_sqlserve.proofs.Repeated.{no_repeats}

-- ---- `suits`

coll_kind : (k : Kind) (u : Ty) → kind_of (ground_of (roll-Ty (Ty-F.Coll k u))) ≡ k
coll_kind k u = ap kind_of (ap ground_of (ty.rolls-Coll k u) ∙ ground-Coll k u)

no_list : (x : Ty-F Ty) → not (length (items_layer x) == 0) ≡ true → not (is_list_layer x) ≡ true → kind_of (ground_of (roll-Ty x)) ≢ kind.List
no_list (Ty-F.Coll kind.Set u) e n is = let bad : kind.Set ≡ kind.List = sym (coll_kind kind.Set u) ∙ is in cc
no_list (Ty-F.Coll kind.Bag u) e n is = let bad : kind.Bag ≡ kind.List = sym (coll_kind kind.Bag u) ∙ is in cc
no_list (Ty-F.Coll kind.List u) e n is = cc
no_list Ty-F.Bool e n is = cc
no_list Ty-F.Int e n is = cc
no_list Ty-F.Str e n is = cc
no_list (Ty-F.Rec fs) e n is = cc
no_list (Ty-F.Var fs) e n is = cc

set_by : (x : Ty-F Ty) → not (length (items_layer x) == 0) ≡ true → kind_of (ground_of (roll-Ty x)) ≡ kind.Set → is_set_layer x ≡ true
set_by (Ty-F.Coll kind.Set u) e is = refl
set_by (Ty-F.Coll kind.Bag u) e is = let bad : kind.Bag ≡ kind.Set = sym (coll_kind kind.Bag u) ∙ is in cc
set_by (Ty-F.Coll kind.List u) e is = let bad : kind.List ≡ kind.Set = sym (coll_kind kind.List u) ∙ is in cc
set_by Ty-F.Bool e is = cc
set_by Ty-F.Int e is = cc
set_by Ty-F.Str e is = cc
set_by (Ty-F.Rec fs) e is = cc
set_by (Ty-F.Var fs) e is = cc

has_columns : (t : Ty) → is_table_type t ≡ true → not (length (items_layer (out-Ty t)) == 0) ≡ true
has_columns t e = (and_parts (not (length (columns_of t) == 0)) _ e).0

set_is : (t : Ty) → is_table_type t ≡ true → kind_of (ground_of t) ≡ kind.Set → is_set t ≡ true
set_is t e is = set_by (out-Ty t) (has_columns t e) (ap (λ u. kind_of (ground_of u)) (roll-out-Ty t) ∙ is)

pub suits : (t : Ty) → is_served t ≡ true → Suits (record { select = true; project = true; join = true; unique = true }) (ground_of t)
suits t e =
    let parts = and_parts (is_table_type t) _ e in
    let flat = suits_flat t parts.0 in
    record {
      collection = flat.collection;
      select = λ is. item_flat t parts.0;
      project = λ is. item_flat t parts.0;
      join = λ is. item_flat t parts.0;
      no_list = λ is. subst (λ u. kind_of (ground_of u) ≢ kind.List) (roll-out-Ty t) (no_list (out-Ty t) (has_columns t parts.0) parts.1);
    }

-- ---- what stands at a path

abbrev Told : Type 0
Told = Option (List ℕ → Option (List ℕ))

-- what stands there, as the server keeps it
abbrev kept_at : Told → List ℕ → Ty → Option Stored
kept_at told path ty = stored_by (kept_contents (contents_of told)) path ty

kept_is : (told : Told) (path : List ℕ) (ty : Ty) → kept_at told path ty ≡ option_map (kept_stored ty) (at_path told path ty)
kept_is None path ty = refl
kept_is (Some files) path ty = refl

was_missing : (ty : Ty) (o : Option Stored) → option_map (kept_stored ty) o ≡ Some Missing → o ≡ Some Missing
was_missing ty None e = cc
was_missing ty (Some Missing) e = refl
was_missing ty (Some (Bad place)) e = cc
was_missing ty (Some (Long most)) e = cc
was_missing ty (Some (Deep place)) e = cc
was_missing ty (Some (Rows rows)) e = cc

was_bad : (ty : Ty) (place : ℕ) (o : Option Stored) → option_map (kept_stored ty) o ≡ Some (Bad place) → o ≡ Some (Bad place)
was_bad ty place None e = cc
was_bad ty place (Some Missing) e = cc
was_bad ty place (Some (Bad p)) e = e
was_bad ty place (Some (Long most)) e = cc
was_bad ty place (Some (Deep p)) e = cc
was_bad ty place (Some (Rows rows)) e = cc

was_long : (ty : Ty) (most : ℕ) (o : Option Stored) → option_map (kept_stored ty) o ≡ Some (Long most) → o ≡ Some (Long most)
was_long ty most None e = cc
was_long ty most (Some Missing) e = cc
was_long ty most (Some (Bad p)) e = cc
was_long ty most (Some (Long m)) e = e
was_long ty most (Some (Deep p)) e = cc
was_long ty most (Some (Rows rows)) e = cc

was_deep : (ty : Ty) (place : ℕ) (o : Option Stored) → option_map (kept_stored ty) o ≡ Some (Deep place) → o ≡ Some (Deep place)
was_deep ty place None e = cc
was_deep ty place (Some Missing) e = cc
was_deep ty place (Some (Bad p)) e = cc
was_deep ty place (Some (Long m)) e = cc
was_deep ty place (Some (Deep p)) e = e
was_deep ty place (Some (Rows rows)) e = cc

was_rows : (ty : Ty) (all : List Value) (o : Option Stored) → option_map (kept_stored ty) o ≡ Some (Rows all) → (rows : List Value) × (o ≡ Some (Rows rows)) × (all ≡ kept_rows ty rows)
was_rows ty all None e = absurd cc
was_rows ty all (Some Missing) e = absurd cc
was_rows ty all (Some (Bad p)) e = absurd cc
was_rows ty all (Some (Long m)) e = absurd cc
was_rows ty all (Some (Deep p)) e = absurd cc
was_rows ty all (Some (Rows rows)) e = (rows, refl, (let same : kept_rows ty rows ≡ all = cc in sym same))

told_kept : (ty : Ty) (o : Option Stored) → told_rows (option_map (kept_stored ty) o) ≡ option_map (kept_rows ty) (told_rows o)
told_kept ty None = refl
told_kept ty (Some Missing) = refl
told_kept ty (Some (Bad p)) = refl
told_kept ty (Some (Long m)) = refl
told_kept ty (Some (Deep p)) = refl
told_kept ty (Some (Rows rows)) = refl

only_kept : {A : Type 0} (told : Option A) (ty : Ty) (rows : List Value) → told_only told (kept_rows ty rows) ≡ option_map (kept_rows ty) (told_only told rows)
only_kept None ty rows = refl
only_kept (Some t) ty rows = refl

told_too : (told : Told) → IsSome (kept_contents (contents_of told)) → IsSome (contents_of told)
told_too None is = absurd cc
told_too (Some files) is = refl

-- ---- `attach`

-- a table was read without a fault
no_fault : (path : List ℕ) (ty : Ty) (rows : List Value) (f f' : FilesState) → ReadsRows path ty (Ok rows) f f' → f'.faults ≡ f.faults
no_fault path ty rows f f' read = by read.read read.reads read.rows
  where
    by : (whole : Result Whole Stop) → ReadsWhole path most_bytes whole f f' → RowsOf ty whole (Ok rows) → f'.faults ≡ f.faults
    by (Ok whole) reads are = reads.counts
    by (Err stop.Failed) reads is = absurd cc
    by (Err stop.NoMemory) reads is = absurd cc

module _ (source path : List ℕ) (ty : Ty) (f f' : FilesState) (sources sources' : Sources) (cursors : List (Option Open)) (asked : List (Ask × ℕ)) (handed : ℕ) where
  -- a refusal of the driver of tables is one of the server
  pub refused : (e : DriverError) (unread unread' : ℕ) → f'.told ≡ f.told → ((name : Name) → source_named sources' name ≡ source_named sources name)
      → Attaches source path ty (Err e) (flat_state f sources [] [] 0 unread) (flat_state f' sources [] [] 0 unread')
      → Attaches source path ty (Err e) (sql_state f sources cursors asked handed unread) (sql_state f' sources' cursors asked handed unread')
  refused e unread unread' told same flat = record {
    keeps = record { kind = ap sql_kind told; handed = omega arith; faults = flat.keeps.faults; drifts = omega arith; no_drift = λ is. refl; unread = flat.keeps.unread };
    cursors = (λ i k. option_map (cursor_of (told i)) (open_at cursors k));
    reading = λ k is. record { file = refl; read = refl };
    asked = refl;
    handed = refl;
    faults = flat.faults;
    drifts = refl;
    unread = flat.unread;
    others = λ name ne. (λ i. option_map (attached_of (told i)) (same name i));
    attached = tt;
    kept = tt;
    count = tt;
    unique = λ is_unique is_set. tt;
    typed = tt;
    refused = (λ i name. option_map (attached_of (told i)) (same name i));
    missing = λ is. flat.missing (was_missing ty at (sym (kept_is f.told path ty) ∙ is));
    bad = λ place is. tt;
    long = λ most is. tt;
    deep = λ place is. tt;
    failed = λ is. elim (flat.failed is) [ inl e ↦ inl (kept_is f.told path ty ∙ ap (option_map (kept_stored ty)) e) | inr rose ↦ inr rose ];
    bad_source = λ place is. elim (flat.bad_source place is) [ inl e ↦ inl (kept_is f.told path ty ∙ ap (option_map (kept_stored ty)) e) | inr rose ↦ inr ((λ t. rose.0 (told_too f.told t)), rose.1) ];
    too_long = λ most is. elim (flat.too_long most is) [ inl e ↦ inl (kept_is f.told path ty ∙ ap (option_map (kept_stored ty)) e) | inr rose ↦ inr ((λ t. rose.0 (told_too f.told t)), rose.1) ];
    too_deep = λ place is. elim (flat.too_deep place is) [ inl e ↦ inl (kept_is f.told path ty ∙ ap (option_map (kept_stored ty)) e) | inr rose ↦ inr ((λ t. rose.0 (told_too f.told t)), rose.1) ];
    no_change = flat.no_change;
  }
    where
      at : Option Stored
      at = at_path f.told path ty

  -- a table was read, and memory wanted then
  pub stopped : (rows : List Value) (result : Result ℕ DriverError) (unread : ℕ) → ReadsRows path ty (Ok rows) f f' → IsUnchanged sources sources' → result ≡ Err error.NoMemory
      → Attaches source path ty result (sql_state f sources cursors asked handed unread) (sql_state f' sources' cursors asked handed unread)
  stopped rows result unread read same is =
      subst (λ r. Attaches source path ty r (sql_state f sources cursors asked handed unread) (sql_state f' sources' cursors asked handed unread)) (sym is)
      (refused error.NoMemory unread unread (good_read path ty rows f f' read).1 (λ name. ap (lookup (pointwise nat_eq name)) same) (attach_stopped source path ty rows (Err error.NoMemory) f f' sources sources [] [] 0 unread read refl refl))

  -- a table that was read is attached
  pub attached : (rows : List Value) (count unread : ℕ) → ReadsRows path ty (Ok rows) f f' → AddsTable source ty rows sources sources' count → is_served ty ≡ true
      → Attaches source path ty (Ok count) (sql_state f sources cursors asked handed unread) (sql_state f' sources' cursors asked handed unread)
  attached rows count unread read adds served = record {
    keeps = record { kind = ap sql_kind good.1; handed = omega arith; faults = good.2; drifts = omega arith; no_drift = λ is. refl; unread = omega arith };
    cursors = (λ i k. option_map (cursor_of (good.1 i)) (open_at cursors k));
    reading = λ k is. record { file = refl; read = refl };
    asked = refl;
    handed = refl;
    faults = no_fault path ty rows f f' read;
    drifts = refl;
    unread = refl;
    others = λ name ne. (λ i. option_map (attached_of (good.1 i)) (others_stay name ne i));
    attached = (None, (λ i. option_map (attached_of (good.1 i)) (now_there i)) ∙ ap Some stands);
    kept = λ anew. absurd cc;
    count = λ all is. adds.size ∙ ap length (sym (all_are all is));
    unique = λ is_unique is_set all is. subst (IsDistinct same_value) (sym (all_are all is)) (subst (IsDistinct same_value) (sym adds.with) (apart is_set));
    typed = λ all is. subst (AllByRecursion (Inhabits (item_of (ground_of ty)))) (sym (all_are all is)) (subst (λ t. AllByRecursion (Inhabits (item_of (ground_of t))) (rows_of adds.made.table)) adds.of (rows_typed adds.made.ty (rows_of adds.made.table) adds.made.typed));
    refused = tt;
    missing = λ is. absurd (good.0.2 (was_missing ty at (sym (kept_is f.told path ty) ∙ is)));
    bad = λ place is. good.0.3 place (was_bad ty place at (sym (kept_is f.told path ty) ∙ is));
    long = λ most is. good.0.4 most (was_long ty most at (sym (kept_is f.told path ty) ∙ is));
    deep = λ place is. good.0.5 place (was_deep ty place at (sym (kept_is f.told path ty) ∙ is));
    failed = λ is. absurd cc;
    bad_source = λ place is. absurd cc;
    too_long = λ most is. absurd cc;
    too_deep = λ place is. absurd cc;
    no_change = λ d is. cc;
  }
    where
      at : Option Stored
      at = at_path f.told path ty

      good : Good f.told path ty rows × (f'.told ≡ f.told) × (f.faults ≤ f'.faults)
      good = good_read path ty rows f f' read

      others_stay : (name : Name) → name ≢ source → source_named sources' name ≡ source_named sources name
      others_stay name ne = let other = not_same source name (λ e. ne (sym e)) in adds.added.0 name ∙ rw other refl

      now_there : source_named sources' source ≡ Some adds.made
      now_there = let same = same_label source in adds.added.0 source ∙ rw same refl

      all_are : (all : List Value) → kept_at f.told path ty ≡ Some (Rows all) → all ≡ rows_of adds.made.table
      all_are all is =
          let was = was_rows ty all at (sym (kept_is f.told path ty) ∙ is) in
          was.2 ∙ ap (kept_rows ty) (good.0.1 was.0 was.1) ∙ sym adds.with

      told_is : told_only f.told (rows_of adds.made.table) ≡ told_rows (kept_at f.told path ty)
      told_is = ap (told_only f.told) adds.with ∙ only_kept f.told ty rows ∙ ap (option_map (kept_rows ty)) good.0.0 ∙ sym (told_kept ty at) ∙ ap told_rows (sym (kept_is f.told path ty))

      stands : attached_of f.told adds.made ≡ record { ty = ty; rows = told_rows (kept_at f.told path ty); count = count; kept = None }
      stands = λ i. record { ty = adds.of i; rows = told_is i; count = sym adds.size i; kept = None }

      apart : kind_of (ground_of ty) ≡ kind.Set → IsDistinct same_value (kept_rows ty rows)
      apart is = let set = set_is ty (and_parts (is_table_type ty) _ served).0 is in subst (IsDistinct same_value) (sym (ap (λ b. cond b (without_repeats rows) rows) set)) (no_repeats rows)

pub served_table : (t : Ty) → is_served t ≡ true → is_table_type t ≡ true
served_table t e = (and_parts (is_table_type t) _ e).0
