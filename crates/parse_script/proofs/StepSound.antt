-- One step of the reading, backwards, at any stage; and a whole run.
use Rattle.std.proofs.Common.{◌≡◌, List, [], ◌∷◌, ◌++◌, Some, refl, sym, ◌∙◌, ap}
use Rattle.mono_syntax.specs.declared.leaf.Word.{Word}
use Rattle.mono_syntax.specs.declared.tree.Item.{Item}
use Rattle.spelled_tokens.specs.declared.token.Mark.TheVariants as mark
use Rattle.spelled_tokens.specs.declared.token.Spelled.{Spelled}
use Rattle.spelled_tokens.specs.declared.token.What.{What}
use Rattle.spelled_tokens.specs.declared.token.What.TheVariants as what
use Rattle.parse_expr.specs.computed.Goes.{Goes, stay, go}
use Rattle.parse_script.specs.declared.stage.Around.{Around}
use Rattle.parse_script.specs.declared.stage.ClassStage.{ClassStage}
use Rattle.parse_script.specs.declared.stage.ClassStage.TheVariants as class_stage
use Rattle.parse_script.specs.declared.stage.DefStage.{DefStage}
use Rattle.parse_script.specs.declared.stage.DefStage.TheVariants as def_stage
use Rattle.parse_script.specs.declared.stage.Head.{Head}
use Rattle.parse_script.specs.declared.stage.Listed.TheVariants as listed
use Rattle.parse_script.specs.declared.stage.Stage.{Stage}
use Rattle.parse_script.specs.declared.stage.Stage.TheVariants as stage
use Rattle.parse_script.specs.computed.ClassReading.{class_step}
use Rattle.parse_script.specs.computed.DefReading.{def_step}
use Rattle.parse_script.specs.computed.Reading.{entered, line_step, head_colon, head_line, head_block, print_word, start_word, class_stage_of, class_next, def_stage_of, def_next, script_step}
use Rattle.parse_script.proofs.Back.{Sound, sound_at, next_is, inside_sound, plain_sound, dotted_sound, target_sound, named_sound, typed_sound, assigning_sound, returning_sound, argument_sound, listing_sound}
use Rattle.parse_script.proofs.BackStart.{start_sound, behind_sound}
use Rattle.parse_script.proofs.ClassLive.{LiveClass, class_live}
use Rattle.parse_script.proofs.ClassLive as class_lives
use Rattle.parse_script.proofs.DefLive.{LiveDef, def_live}
use Rattle.parse_script.proofs.DefLive as def_lives
use Rattle.parse_script.proofs.Live.{Live}
use Rattle.parse_script.proofs.Rest.{Rest, RestClass, RestDef}
use Rattle.parse_script.proofs.Steps.{none_some, some_is, split_option}

line_sound : (a : Around) (t : Spelled) (w : What) (n : Stage) → t.what ≡ w → line_step a w ≡ Some n → Sound (λ ts all. Rest (stage.Line a) ts all) t n
line_sound a t (what.Mark mark.Newline) n i h = sound_at _ t (stage.Start a) n (some_is h) (record { live = tt; back = λ ts all r. next_is (what.Mark mark.Newline) _ t ts i r })
line_sound a t w n i h = none_some _ h

colon_sound : (a : Around) (x : Head) (t : Spelled) (w : What) (n : Stage) → t.what ≡ w → head_colon a x w ≡ Some n → Sound (λ ts all. Rest (stage.HeadColon a x) ts all) t n
colon_sound a x t (what.Mark mark.Colon) n i h = sound_at _ t (stage.HeadLine a x) n (some_is h) (record { live = tt; back = λ ts all r. next_is (what.Mark mark.Colon) _ t ts i r })
colon_sound a x t w n i h = none_some _ h

head_line_sound : (a : Around) (x : Head) (t : Spelled) (w : What) (n : Stage) → t.what ≡ w → head_line a x w ≡ Some n → Sound (λ ts all. Rest (stage.HeadLine a x) ts all) t n
head_line_sound a x t (what.Mark mark.Newline) n i h = sound_at _ t (stage.HeadBlock a x) n (some_is h) (record { live = tt; back = λ ts all r. next_is (what.Mark mark.Newline) _ t ts i r })
head_line_sound a x t w n i h = none_some _ h

head_block_sound : (a : Around) (x : Head) (t : Spelled) (w : What) (n : Stage) → t.what ≡ w → head_block a x w ≡ Some n → Sound (λ ts all. Rest (stage.HeadBlock a x) ts all) t n
head_block_sound a x t (what.Mark mark.Indent) n i h = sound_at _ t (stage.Start (entered a x)) n (some_is h) (record { live = tt; back = λ ts all r. next_is (what.Mark mark.Indent) _ t ts i r })
head_block_sound a x t w n i h = none_some _ h

print_sound : (a : Around) (t : Spelled) (w : What) (n : Stage) → t.what ≡ w → print_word a t.place w ≡ Some n → Sound (λ ts all. Rest (stage.PrintWord a) ts all) t n
print_sound a t what.Open n i h = sound_at _ t (stage.Listing a (listed.Print t.place) []) n (some_is h) (record { live = tt; back = λ ts all r. next_is what.Open _ t ts i r })
print_sound a t w n i h = none_some _ h

start_word_sound : (a : Around) (x : Word) (t : Spelled) (w : What) (n : Stage) → t.what ≡ w → start_word a x t.place w ≡ Some n → Sound (λ ts all. Rest (stage.StartWord a x) ts all) t n
start_word_sound a x t what.Open n i h = sound_at _ t (stage.Listing a (listed.Start x t.place) []) n (some_is h) (record { live = tt; back = λ ts all r. next_is what.Open _ t ts i r })
start_word_sound a x t w n i h = none_some _ h

-- ---- classes and functions

class_stage_live : (is : List Item) (m : ClassStage) → class_lives.LiveOrDone m → Live (class_stage_of is m)
class_stage_live is (class_stage.Done c) l = tt
class_stage_live is (class_stage.Type w fs x k) l = l
class_stage_live is m l = tt

class_stage_rest : (is : List Item) (m : ClassStage) (ts : List Spelled) (all : List Item) → Rest (class_stage_of is m) ts all → RestClass is m ts all
class_stage_rest is (class_stage.Done c) ts all r = record { part = []; more = ts; tree = c; goes = stay (class_stage.Done c); split = refl; rest = r }
class_stage_rest is m ts all r = r

class_next_sound : (is : List Item) (m : ClassStage) (t : Spelled) (n : Stage) → LiveClass m → class_next is (class_step m t) ≡ Some n → Sound (λ ts all. RestClass is m ts all) t n
class_next_sound is m t n l h =
    split_option (class_step m t) (Sound (λ ts all. RestClass is m ts all) t n)
    (λ e. none_some _ (sym (ap (class_next is) e) ∙ h))
    (λ k e.
    sound_at _ t (class_stage_of is k) n (some_is (sym (ap (class_next is) e) ∙ h))
    (record {
      live = class_stage_live is k (class_live m t k l e);
      back = λ ts all q.
          let r = class_stage_rest is k ts all q in
          record { part = t ∷ r.part; more = r.more; tree = r.tree; goes = go m k (class_stage.Done r.tree) t r.part e r.goes; split = ap (λ (l : List Spelled). t ∷ l) r.split; rest = r.rest };
    }))

def_stage_live : (is : List Item) (m : DefStage) → def_lives.LiveOrDone m → Live (def_stage_of is m)
def_stage_live is (def_stage.Done h) l = tt
def_stage_live is (def_stage.Type w xs x k) l = l
def_stage_live is (def_stage.Result w xs k) l = l
def_stage_live is m l = tt

def_stage_rest : (is : List Item) (m : DefStage) (ts : List Spelled) (all : List Item) → Rest (def_stage_of is m) ts all → RestDef is m ts all
def_stage_rest is (def_stage.Done h) ts all r = record { part = []; more = ts; tree = h; goes = stay (def_stage.Done h); split = refl; rest = r }
def_stage_rest is m ts all r = r

def_next_sound : (is : List Item) (m : DefStage) (t : Spelled) (n : Stage) → LiveDef m → def_next is (def_step m t) ≡ Some n → Sound (λ ts all. RestDef is m ts all) t n
def_next_sound is m t n l h =
    split_option (def_step m t) (Sound (λ ts all. RestDef is m ts all) t n)
    (λ e. none_some _ (sym (ap (def_next is) e) ∙ h))
    (λ k e.
    sound_at _ t (def_stage_of is k) n (some_is (sym (ap (def_next is) e) ∙ h))
    (record {
      live = def_stage_live is k (def_live m t k l e);
      back = λ ts all q.
          let r = def_stage_rest is k ts all q in
          record { part = t ∷ r.part; more = r.more; tree = r.tree; goes = go m k (def_stage.Done r.tree) t r.part e r.goes; split = ap (λ (l : List Spelled). t ∷ l) r.split; rest = r.rest };
    }))

-- ---- all stages

pub step_sound : (s : Stage) (t : Spelled) (n : Stage) → Live s → script_step s t ≡ Some n → Sound (λ ts all. Rest s ts all) t n
step_sound (stage.Start a) t n l h = start_sound a t n h
step_sound (stage.Behind a bs) t n l h = behind_sound a bs t n h
step_sound (stage.Line a) t n l h = line_sound a t t.what n refl h
step_sound (stage.Named a x) t n l h = named_sound a x t n h
step_sound (stage.Plain a m) t n l h = plain_sound a m t n l h
step_sound (stage.Dotted a o w) t n l h = dotted_sound a o w t t.what n refl l h
step_sound (stage.Target a o w x) t n l h = target_sound a o w x t n l h
step_sound (stage.Typed a x m) t n l h = typed_sound a x m t n l h
step_sound (stage.Assigning a x) t n l h = assigning_sound a x t n h
step_sound (stage.Returning a p) t n l h = returning_sound a p t n h
step_sound (stage.Inside a u m) t n l h = inside_sound a u m t n l h
step_sound (stage.PrintWord a) t n l h = print_sound a t t.what n refl h
step_sound (stage.StartWord a x) t n l h = start_word_sound a x t t.what n refl h
step_sound (stage.Listing a l es) t n i h = listing_sound a l es t n h
step_sound (stage.Argument a l es m) t n i h = argument_sound a l es m t n i h
step_sound (stage.HeadColon a x) t n l h = colon_sound a x t t.what n refl h
step_sound (stage.HeadLine a x) t n l h = head_line_sound a x t t.what n refl h
step_sound (stage.HeadBlock a x) t n l h = head_block_sound a x t t.what n refl h
step_sound (stage.Class is m) t n l h = class_next_sound is m t n l h
step_sound (stage.Def is m) t n l h = def_next_sound is m t n l h
step_sound (stage.Ended is) t n l h = none_some _ h

-- a run keeps stages live
pub goes_live : (s n : Stage) (ts : List Spelled) → Goes script_step s ts n → Live s → Live n
goes_live s n [] (stay k) l = l
goes_live s n (t ∷ ts) (go k m j u us e g) l = goes_live m n ts g (step_sound s t m l e).live

-- what the last stage still wants, behind the tokens of the run, is what the first one wants
pub goes_back : (s n : Stage) (ts us : List Spelled) (all : List Item) → Goes script_step s ts n → Live s → Rest n us all → Rest s (ts ++ us) all
goes_back s n [] us all (stay k) l r = r
goes_back s n (t ∷ ts) us all (go k m j u vs e g) l r =
    let x = step_sound s t m l e in
    x.back (ts ++ us) all (goes_back m n ts us all g x.live r)
