-- The fields of the classes of a script that the grammar gives have names that are text.
use Rattle.std.proofs.Common.{ℕ, List, [], ◌∷◌, ◌++◌, sym, subst}
use Rattle.std.specs.Prelude.{Contains, chars}
use Rattle.std.specs.Str.{IsUtf8}
use Rattle.std.specs.List.{All}
use Rattle.std.proofs.lemmas.List.Elements.{recursion_from_All}
use Rattle.mono_syntax.specs.declared.tree.ClassDef.{ClassDef}
use Rattle.mono_syntax.specs.declared.tree.FieldDef.{FieldDef}
use Rattle.mono_syntax.specs.declared.tree.Item.{Item}
use Rattle.mono_syntax.specs.declared.tree.Item.TheVariants as item
use Rattle.mono_syntax.specs.declared.tree.Script.{Script}
use Rattle.py_lexer.specs.declared.token.Token.{Token}
use Rattle.py_lexer.specs.Lexes.{Lexes}
use Rattle.script_rules.specs.Definitions.{classes_of}
use Rattle.script_rules.specs.Scoping.{class_list}
use Rattle.spelled_tokens.specs.declared.token.Spelled.{Spelled}
use Rattle.spelled_tokens.specs.SpelledTokens.{all_spelled}
use Rattle.token_lines.specs.Writable.{IsSound}
use Rattle.token_lines.proofs.Sound.{sound_tokens}
use Rattle.parse_script.specs.Definitions as ds
use Rattle.parse_script.specs.Definitions.{DerivesField, DerivesFields, DerivesClass}
use Rattle.parse_script.specs.Script as sc
use Rattle.parse_script.specs.Script.{DerivesItems, DerivesScript, DerivesWhole}
use Rattle.tree_print.proofs.Rows.{AreSound, front, back}
use Rattle.mono_syntax.specs.Ty.{Ty}
use Rattle.mono_tree.specs.TypeText.{HasTextNames}
use Rattle.cast_rules.specs.TextNames.{AreTextFields, HaveTextFields}
use Rattle.cast_rules.proofs.TextSites.{types_are_text}
use Rattle.load_script.specs.declared.accepted.Accepted.{Accepted}
use Rattle.load_script.specs.Phases.{IsProgramOf}

field_text : {ts : List Spelled} {f : FieldDef} → DerivesField ts f → AreSound ts → IsUtf8 f.name.text
field_text (ds.field p q r x ts a k) h = h.0.0

fields_text : {ts : List Spelled} {fs : List FieldDef} → DerivesFields ts fs → AreSound ts → AreTextFields fs
fields_text (ds.one_field ts f k) h = (field_text k h, tt)
fields_text (ds.more_fields ts us f fs k l) h = (field_text k (front ts us h), fields_text l (back ts us h))

class_text : {ts : List Spelled} {c : ClassDef} → DerivesClass ts c → AreSound ts → AreTextFields c.fields
class_text (ds.no_fields p q r s t u v w x) h = tt
class_text (ds.fields p q r s t u x us fs k) h = fields_text k (front us _ h.1.1.1.1.1)

items_text : {ts : List Spelled} {is : List Item} → DerivesItems ts is → AreSound ts → HaveTextFields (classes_of is)
items_text sc.no_items h = tt
items_text (sc.more_items ts us i is (sc.class ws c d) k) h = (class_text d (front ts us h), items_text k (back ts us h))
items_text (sc.more_items ts us i is (sc.def ws f d) k) h = items_text k (back ts us h)
items_text (sc.more_items ts us i is (sc.statement ws s d) k) h = items_text k (back ts us h)

whole_text : (ts : List Spelled) (s : Script) → DerivesWhole ts s → AreSound ts → HaveTextFields (class_list s)
whole_text ts s (sc.script p us is d) h = items_text d (front us _ h)

pub field_names_are_text : (text : List ℕ) (tokens : List Token) (s : Script) → IsUtf8 text → Lexes (chars text) tokens → DerivesScript text tokens s
    → HaveTextFields (class_list s)
field_names_are_text text tokens s u x d =
    whole_text (all_spelled text tokens) s d (recursion_from_All (λ t. IsSound t.what) (all_spelled text tokens) (sound_tokens text tokens u x))

-- so have the types of a program's sites
pub program_texts : (bytes : List ℕ) (p : Accepted) → IsProgramOf bytes p → (t : Ty) → Contains p.script.types t → HasTextNames t
program_texts bytes p i t c =
    let text = i.program in
    let tokens = text.program in
    let tree = tokens.program in
    let d = tree.scoped in
    let fields = field_names_are_text bytes text.tokens tokens.script i.is_text text.lexes tokens.tree in
    let own = subst (λ (s : Script). HaveTextFields (class_list s)) (sym (tree.scope).script) fields in
    types_are_text d p.script own tree.casts t c
