use Rattle.console.proofs.conversation.Conversation.forward.Given as goal

abbrev pub decreases-loop-left : goal.decreases-loop-left
decreases-loop-left g l = l.left
