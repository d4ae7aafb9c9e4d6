use Rattle.tt_exec_stack.proofs.stack.Stack.put_zeros.Goals as goal

pub loop-init : goal.loop-init
loop-init c = cc
