-- `pages::read_page` meets its contract. The loop's invariant: the entries below `i` were read, and `word` has the bits of those
-- on the page (`Reading`).
-- Assumes nothing.
use mathlib.Core.Path.{◌≡◌, ap, ◌∙◌}
use Prim.Native.Nat.{ℕ, ◌+◌, ◌*◌, ◌/◌, ◌%◌, ◌^◌}
use native.Mathlib.Omega.{arith}
use Rattle.pages.specs.Pages.{page_size}
use Rattle.pages.proofs.Reading.{Reading, reading-start, reading-next, reading-lt, reading-end, reading-past}
use Rattle.pages.proofs.read_page.Goals as goal

pub loop-i-init : goal.loop-i-init
loop-i-init c = reading-start c.requires.parted

pub returns-then-c-page : goal.returns-then-c-page
returns-then-c-page c =
    reading-past c.loop-i.invariant c.requires.ascending (omega (arith, c.entry_count-count.ensures))
    (λ e. c.if-c-page.true (ap (λ (x : ℕ). x / page_size) c.code_at-c.ensures ∙ e))

pub overflow_add-word : goal.overflow_add-word
overflow_add-word c =
    let more : Reading c.args.entries.now c.args.page (c.loop-i.i + 1) (c.loop-i.word + 1 * 2 ^ (c.code_at-c.result.0 % 64) % 2 ^ 64) =
    reading-next c.loop-i.invariant c.requires.ascending (omega (arith, c.entry_count-count.ensures)) c.code_at-c.result.0
    c.code_at-c.ensures c.if-c-page.false in
    omega (arith, reading-lt more)

pub loop-i-preserved : goal.loop-i-preserved
loop-i-preserved c =
    reading-next c.loop-i.invariant c.requires.ascending (omega (arith, c.entry_count-count.ensures)) c.code_at-c.result.0
    c.code_at-c.ensures c.if-c-page.false

pub returns : goal.returns
returns c =
    let all : c.loop-i.i ≡ c.entry_count-count.result = omega (arith, c.loop-i.invariant.within, c.entry_count-count.ensures) in
    rw (← all) (reading-end c.loop-i.invariant (omega (arith, c.entry_count-count.ensures)))
