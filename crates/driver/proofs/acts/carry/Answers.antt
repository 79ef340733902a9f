use Rattle.driver.proofs.Carrying.{serves_carries, shown_sound, shows_carried, done_carried, refused_carried}
use Rattle.driver.proofs.acts.carry.Goals as goal

pub returns-in-Starts-clause-done : goal.returns-in-Starts-clause-done
returns-in-Starts-clause-done g c = serves_carries _ _ _ _ _ _ _ _ c.in-Starts.is (c.start.ensures.done _)

pub returns-in-Feeds-clause-done : goal.returns-in-Feeds-clause-done
returns-in-Feeds-clause-done g c = serves_carries _ _ _ _ _ _ _ _ c.in-Feeds.is (c.feed.ensures.done _)

pub returns-in-Goes-clause-done : goal.returns-in-Goes-clause-done
returns-in-Goes-clause-done g c = serves_carries _ _ _ _ _ _ _ _ c.in-Goes.is (c.go.ensures.done _)

pub returns-in-Keeps-clause-done : goal.returns-in-Keeps-clause-done
returns-in-Keeps-clause-done g c = serves_carries _ _ _ _ _ _ _ _ c.in-Keeps.is (c.keep.ensures.done _)

pub returns-in-TakesUp-clause-done : goal.returns-in-TakesUp-clause-done
returns-in-TakesUp-clause-done g c = serves_carries _ _ _ _ _ _ _ _ c.in-TakesUp.is (c.take_up.ensures.done _)

pub returns-in-Looks-clause-done : goal.returns-in-Looks-clause-done
returns-in-Looks-clause-done g c = serves_carries _ _ _ _ _ _ _ _ c.in-Looks.is c.look.ensures.done

pub returns-in-Shows : goal.returns-in-Shows
returns-in-Shows g c = record { done = shows_carried _ _ _ _ _ _ _ _ _ _ c.in-Shows.is c.show.ensures (λ t l. l); sound = shown_sound _ _ _ _ _ c.show.ensures 4096 }

pub returns-in-Done-clause-done : goal.returns-in-Done-clause-done
returns-in-Done-clause-done g c = done_carried _ _ _ _ _ _ _ c.in-Done.is (λ t l. l)

pub returns-in-No-clause-done : goal.returns-in-No-clause-done
returns-in-No-clause-done g c = refused_carried _ _ _ _ _ _ _ _ _ c.in-No.is c.into.ensures (λ t l. l)
