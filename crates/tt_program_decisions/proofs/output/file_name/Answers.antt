use Rattle.std.proofs.Common.{◌≡◌, ◌≢◌, ℕ, List, ◌++◌, codes, Some, Result, Ok, Err, IfOk, inr, string_bytes}
use Rattle.std.proofs.lemmas.Str.Pattern.{split_text_parts}
use Rattle.tt_program_decisions.specs.Output.{IsFileName}
use Rattle.tt_program_decisions.proofs.output.file_name.Goals as goal

-- a name without `%d` is the name of the file
alone : {V E : Type 0} (view : V → List ℕ) (name : List ℕ) (number : ℕ) (r : Result V E)
    → ((before after : List ℕ) → name ≢ before ++ (codes "%d" ++ after)) → IfOk r (λ text. view text ≡ name)
    → IfOk r (λ text. IsFileName name (Some number) (view text))
alone view name number (Ok text) none is = inr (none, is)
alone view name number (Err e) none is = tt

pub returns-in-None : goal.returns-in-None
returns-in-None c =
    let parts = split_text_parts (codes "%d") c.args.name.now c.split_once.result c.split_once.ensures.cases in
    let none = rw c.in-None.is at parts in
    rw c.in-Some.is
    (alone string_bytes c.args.name.now c.in-Some.number c.from_str-in-None.result none c.from_str-in-None.ensures.ok)
