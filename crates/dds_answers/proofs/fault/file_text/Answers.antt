use Rattle.std.proofs.Common.{◌≡◌, ◌++◌, IfOk, codes, string_bytes}
use Rattle.std.specs.Fmt.{decimal}
use Rattle.dds_answers.proofs.fault.file_text.Goals as goal

pub returns : goal.returns
returns c =
    let h : IfOk c.format.result (λ text. string_bytes text ≡ string_bytes c.args.line ++ (codes "because line " ++ (decimal c.in-Some.error.line ++ (codes ", column " ++ (decimal c.in-Some.error.column ++ (codes ": " ++ (c.as_str-message.result.now ++ codes "\n")))))))
    = c.format.ensures.ok in
    rw c.in-Some.is (rw c.as_str-message.ensures.value at h)
